-- The claims applied to runs: their premises hold of something. Assumes nothing.
use Rattle.document_model.specs.Examples.{camera, allowing, with_sandbox, loads, between, fewer_items, more_items, item_added, fewer_words, more_words, word_added, grandchild, framed, top, family, fewer_keywords, more_keywords, keyword_added, sandbox_frame, within, sandbox_family, same_origin_run}
use mathlib.Core.Path.{◌≡◌, refl, sym, subst}
use Prim.Native.Nat.{ℕ, ◌<◌}
use native.Mathlib.Omega.{arith}
use mathlib.Core.Bool.{Bool, true, false}
use mathlib.Core.List.{List, [], ◌∷◌, ◌++◌}
use Rattle.ascii.specs.Literals.{text}
use Rattle.ascii.proofs.Clash.{clash}
use Rattle.origins.specs.Origins.{origin_of, null_text}
use Rattle.containers.specs.Attributes.{Attributes}
use Rattle.containers.specs.Widening.WordMore.{word_more}
use Rattle.containers.specs.Widening.KeywordMore.{keyword_more}
use Rattle.decisions.specs.Decisions.Decision.{disabled, enabled}
use Rattle.document_model.specs.Runs.{Each}
use Rattle.document_model.specs.Model.{Text, is_good_origin, Call, top_load, framed_load, unload, question, enabled_features, forecast_of, Answer, refused, loaded, removed, decision, features, answers, answer_after}
use Rattle.document_model.specs.History.{Event, history, Happened, last, earlier, gave_framed, Framed, framed_by, Unloaded, unloaded, BeneathIn, directly, through, LoadedIn, now, still}
use Rattle.document_model.specs.Answering.{answer_at}
use Rattle.document_model.specs.Claims.{item_top, word_framed, keyword_framed, keyword_forecast, is_accepted, Keeps, enabled_stays, as_src, as_null}
use Rattle.document_model.specs.Computing.{computing}
use Rattle.document_model.proofs.Claims.{disabled-flows-down, more-never-takes-away, forecast-comes-true}

-- ---- 1: "loaded" and "beneath" by their own definitions, over the calls and answers written out

abbrev load_events : List Event
load_events =
    record { call = framed_load 4 [] (text "null") (allowing ""); answer = loaded 5 false }
    ∷ record { call = top_load [] (text "https://d.example"); answer = loaded 4 false }
    ∷ record { call = framed_load 2 (text "camera=*") (text "https://c.example") (allowing "camera *"); answer = loaded 3 false }
    ∷ record { call = framed_load 1 [] (text "https://b.example") (allowing "camera"); answer = loaded 2 false }
    ∷ record { call = top_load (text "camera=()") (text "https://a.example"); answer = loaded 1 false }
    ∷ []

abbrev events : List Event
events = record { call = question 5 camera []; answer = refused 1 } ∷ record { call = unload 5; answer = removed 1 } ∷ load_events

happened : history (loads ++ between) ≡ events
unfolding computing
happened = refl

-- each container among these is older, and so is all that a document is beneath
Older : List Event → Type 0
Older [] = Unit {0}
Older (e ∷ es) = ((s k : ℕ) → Framed e.call e.answer s k → k < s) × Older es

older : {c : Call} {a : Answer} {s k : ℕ} (es : List Event) → Older es → Happened c a es → Framed c a s k → k < s
unfolding Older
older [] o m f = elim m [ ]
older (e ∷ es) o last f = o.0 _ _ f
older (e ∷ es) o (earlier p) f = older es o.1 p f

beneath-older : (es : List Event) → Older es → {e d : ℕ} → BeneathIn es e d → d < e
beneath-older es o (directly p f) = older es o p f
beneath-older es o (through p f b) = omega (arith, older es o p f, beneath-older es o b)

framed-older : (c : ℕ) (h o : Text) (a : Attributes) (n : ℕ) (m : Bool) → c < n → (s k : ℕ) → Framed (framed_load c h o a) (loaded n m) s k → k < s
framed-older c h o a n m lt s k framed_by = lt

older-here : Older load_events
unfolding Older
older-here =
    (framed-older _ _ _ _ _ _ (omega arith), (λ s k f. elim f [ ], (framed-older _ _ _ _ _ _ (omega arith), (framed-older _ _ _ _ _ _ (omega arith), (λ s k f. elim f [ ], tt)))))

-- the unload names neither document 3 nor one that it is beneath
unnamed : (u : ℕ) → Unloaded (unload 5) (removed 1) u → (u ≡ 3 → ⊥) × (BeneathIn load_events 3 u → ⊥)
unnamed u unloaded = (λ e. omega arith, λ b. omega (arith, beneath-older load_events older-here b))

-- other calls unload nothing
quiet : (c : Call) (a : Answer) {s : ℕ} {es : List Event} → ((u : ℕ) → Unloaded c a u → ⊥) → LoadedIn es s → LoadedIn (record { call = c; answer = a } ∷ es) s
quiet c a h l = still l (λ u v. absurd (h u v))

after-top : (h o : Text) (n : ℕ) (m : Bool) {s : ℕ} {es : List Event} → LoadedIn es s → LoadedIn (record { call = top_load h o; answer = loaded n m } ∷ es) s
after-top h o n m l = quiet (top_load h o) (loaded n m) (λ u v. elim v [ ]) l

after-framed : (c : ℕ) (h o : Text) (a : Attributes) (n : ℕ) (m : Bool) {s : ℕ} {es : List Event} → LoadedIn es s → LoadedIn (record { call = framed_load c h o a; answer = loaded n m } ∷ es) s
after-framed c h o a n m l = quiet (framed_load c h o a) (loaded n m) (λ u v. elim v [ ]) l

after-question : (d f : ℕ) (o : Text) (a : Answer) {s : ℕ} {es : List Event} → LoadedIn es s → LoadedIn (record { call = question d f o; answer = a } ∷ es) s
after-question d f o a l = quiet (question d f o) a (λ u v. elim v [ ]) l

loaded-three : LoadedIn events 3
loaded-three = after-question _ _ _ _ (still (after-framed _ _ _ _ _ _ (after-top _ _ _ _ (now gave_framed))) unnamed)

three-beneath : BeneathIn events 3 1
three-beneath = through (earlier (earlier (earlier (earlier last)))) framed_by (directly (earlier (earlier (earlier (earlier (earlier last))))) framed_by)

asked : answer_after loads (question 1 camera []) ≡ decision disabled
unfolding computing
asked = refl

-- so the grandchild is Disabled at every good origin text
flowed : (o : Text) → is_good_origin (origin_of o) ≡ true → answer_after (loads ++ between) (question 3 camera o) ≡ decision disabled
flowed = disabled-flows-down loads between 1 3 camera asked (subst (λ (es : List Event). LoadedIn es 3) (sym happened) loaded-three) (subst (λ (es : List Event). BeneathIn es 3 1) (sym happened) three-beneath)

-- and a document that isn't beneath stays Enabled
apart : answer_after (loads ++ between) (question 4 camera []) ≡ decision enabled
unfolding computing
apart = refl

-- ---- 2

top-accepted : is_accepted (answer_after [] (top fewer_items)) ≡ true
unfolding computing
top-accepted = refl

top-accepted-more : is_accepted (answer_after [] (top more_items)) ≡ true
unfolding computing
top-accepted-more = refl

item-kept : Each Keeps (answers (family fewer_items "camera")) (answers (family more_items "camera"))
item-kept = more-never-takes-away [] (top fewer_items) (top more_items) (framed "camera" ∷ grandchild) (item_top item_added) top-accepted top-accepted-more

framed-accepted : is_accepted (answer_after (top [] ∷ []) (framed fewer_words)) ≡ true
unfolding computing
framed-accepted = refl

framed-accepted-more : is_accepted (answer_after (top [] ∷ []) (framed more_words)) ≡ true
unfolding computing
framed-accepted-more = refl

word_kept : Each Keeps (answers (family [] fewer_words)) (answers (family [] more_words))
word_kept = more-never-takes-away (top [] ∷ []) (framed fewer_words) (framed more_words) grandchild (word_framed (word_more word_added)) framed-accepted framed-accepted-more

sandbox-accepted : is_accepted (answer_after (top [] ∷ []) (sandbox_frame fewer_keywords)) ≡ true
unfolding computing
sandbox-accepted = refl

sandbox-accepted-more : is_accepted (answer_after (top [] ∷ []) (sandbox_frame more_keywords)) ≡ true
unfolding computing
sandbox-accepted-more = refl

keyword-kept : Each Keeps (answers (sandbox_family fewer_keywords)) (answers (sandbox_family more_keywords))
keyword-kept = more-never-takes-away (top [] ∷ []) (sandbox_frame fewer_keywords) (sandbox_frame more_keywords) within (keyword_framed (keyword_more keyword_added)) sandbox-accepted sandbox-accepted-more

-- and in a forecast
forecast-accepted : is_accepted (answer_after (top [] ∷ []) (forecast_of 1 (with_sandbox fewer_keywords ""))) ≡ true
unfolding computing
forecast-accepted = refl

forecast-accepted-more : is_accepted (answer_after (top [] ∷ []) (forecast_of 1 (with_sandbox more_keywords ""))) ≡ true
unfolding computing
forecast-accepted-more = refl

forecast-kept : Each Keeps (answers (top [] ∷ forecast_of 1 (with_sandbox fewer_keywords "") ∷ [])) (answers (top [] ∷ forecast_of 1 (with_sandbox more_keywords "") ∷ []))
forecast-kept = more-never-takes-away (top [] ∷ []) (forecast_of 1 (with_sandbox fewer_keywords "")) (forecast_of 1 (with_sandbox more_keywords "")) [] (keyword_forecast (keyword_more keyword_added)) forecast-accepted forecast-accepted-more

-- the claim would be false of `allow-same-origin`: a question on serial 3 is Enabled without it, and Disabled with it
taken : Keeps (decision enabled) (decision disabled) → ⊥
taken (enabled_stays s) = let e : disabled ≡ enabled = s.keeps refl in clash cc

same-origin-takes-away : Keeps (answer_at 4 (answers (same_origin_run ""))) (answer_at 4 (answers (same_origin_run "allow-same-origin"))) → ⊥
unfolding computing
same-origin-takes-away k = taken k

-- ---- 4

forecast-said : answer_after (top [] ∷ []) (forecast_of 1 (allowing "camera")) ≡ features 64909
unfolding computing
forecast-said = refl

arrived : answer_after (top [] ∷ forecast_of 1 (allowing "camera") ∷ []) (framed "camera") ≡ loaded 2 false
unfolding computing
arrived = refl

came-true : answer_after (top [] ∷ forecast_of 1 (allowing "camera") ∷ framed "camera" ∷ []) (enabled_features 2) ≡ features 64909
came-true = forecast-comes-true.comes_true (top [] ∷ []) 1 (text "https://b.example") (allowing "camera") 64909 2 false forecast-said as_src arrived

-- and with `null` in a sandboxed frame
sandboxed-said : answer_after (top [] ∷ []) (forecast_of 1 (with_sandbox "" "camera *")) ≡ features 1
unfolding computing
sandboxed-said = refl

src-refused : answer_after (top [] ∷ []) (framed_load 1 [] (text "https://b.example") (with_sandbox "" "camera *")) ≡ refused 5
unfolding computing
src-refused = refl

null-arrived : answer_after (top [] ∷ forecast_of 1 (with_sandbox "" "camera *") ∷ []) (framed_load 1 [] null_text (with_sandbox "" "camera *")) ≡ loaded 2 false
unfolding computing
null-arrived = refl

null-came-true : answer_after (top [] ∷ forecast_of 1 (with_sandbox "" "camera *") ∷ framed_load 1 [] null_text (with_sandbox "" "camera *") ∷ []) (enabled_features 2) ≡ features 1
null-came-true = forecast-comes-true.comes_true (top [] ∷ []) 1 null_text (with_sandbox "" "camera *") 1 2 false sandboxed-said (as_null src-refused) null-arrived
