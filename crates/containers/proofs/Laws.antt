-- The laws of a frame's attributes, for the crates above, which open no definition of this crate. Assumes nothing.
use mathlib.Core.Path.{◌≡◌, refl, ap, ◌∙◌, sym}
use Prim.Native.Nat.{ℕ, ◌≤◌, ◌<◌}
use mathlib.Core.List.{List, [], ◌++◌}
use mathlib.Core.Bool.{Bool, true, false, not, ◌&&◌, ◌||◌}
use Rattle.std.specs.Prelude.{Option, Some, None}
use native.Mathlib.Omega.{arith}
use lib.Dec.{eqb, ltb}
use lib.ListN.{drop}
use borrow.Author.Tests.{ltb-true, ltb-false, ne_eqb}
use Rattle.ascii.specs.Bytes.{pick, lower}
use Rattle.ascii.specs.Literals.{text}
use Rattle.ascii.specs.Texts.{same_lowered}
use Rattle.ascii.proofs.Clash.{clash}
use Rattle.ascii.proofs.Texts.{same-is}
use Rattle.features.specs.Features.{Default, feature_count, name_of, default_of, feature_of}
use Rattle.features.specs.Features.Default.{star, self}
use Rattle.features.specs.Computing.{computing}
use Rattle.features.proofs.Laws.{found, default_none}
use Rattle.origins.specs.Origins.{Origin, TupleOrigin, OriginSaid, origin_of}
use Rattle.origins.specs.Origins.Origin.{tuple, fresh}
use Rattle.origins.specs.Origins.OriginSaid.{says_empty, says_null, says_tuple, no_origin}
use Rattle.allowlists.specs.Allowlists.{Allowlist, empty_list}
use Rattle.allowlists.specs.Allowlists.Meaning.{src}
use Rattle.allowlists.specs.Widening.{AsWide, AsWideOrOpened}
use Rattle.allowlists.specs.Widening.AsWide.{both}
use Rattle.allowlists.specs.Widening.AsWideOrOpened.{as_wide}
use Rattle.allowlists.proofs.Laws.{as-wide-self, from_empty}
use Rattle.pieces.specs.Pieces.{words, has_keyword, entry_of}
use Rattle.pieces.specs.Words.{entry_list}
use Rattle.pieces.proofs.Laws.{empty-entry, Grown, entry-grown, word-wider, keyword_more as more-words, keyword-other}
use Rattle.pieces.proofs.Laws.Grown.{same, grown}
use Rattle.containers.specs.Attributes.{Attributes}
use Rattle.containers.specs.Policies.{is_semicolon, fullscreen, plugins, entry_else, allowed_fullscreen, is_star_default, has_default_star, keyword_of, keyword_stands, sandbox_closes, closes_plugins, attribute_policy, container_policy}
use Rattle.containers.specs.Sandboxes.{sandbox_words, allow_same_origin, without_same_origin, sandboxes, is_sandboxed, src_origin, fresh_if, declared_origin}
use Rattle.containers.specs.Widening.{WordMore, OneKeywordMore, KeywordMore}
use Rattle.containers.specs.Widening.WordMore.{word_more}
use Rattle.containers.specs.Widening.KeywordMore.{keyword_more}

-- the number of `fullscreen` is that of its name
pub fullscreen-name : name_of fullscreen ≡ text "fullscreen"
unfolding computing
fullscreen-name = refl

pub plugins-name : name_of plugins ≡ text "plugins"
unfolding computing
plugins-name = refl

-- the container policy is what allow, allowfullscreen and the sandbox attribute give
pub policy-attributes : (a : Attributes) (n : ℕ) → container_policy a n ≡ attribute_policy a.allow a.allowfullscreen (sandbox_words a.has_sandbox a.sandbox) n
unfolding container_policy
policy-attributes a n = refl

-- 02, R-1, step by step, of a frame with a sandbox attribute. Plugins: the empty list
module _ (allow : List ℕ) (mark : Bool) (ws : List (List ℕ)) where
  pub step-plugins : attribute_policy allow mark (Some ws) plugins ≡ Some empty_list
  unfolding attribute_policy closes_plugins pick
  step-plugins = refl

  module _ (n : ℕ) (other : n ≡ plugins → ⊥) where
    -- an entry: its list decides
    pub step-entry : (vs : List (List ℕ)) → entry_of is_semicolon allow n ≡ Some vs → attribute_policy allow mark (Some ws) n ≡ Some (entry_list src vs)
    unfolding attribute_policy closes_plugins entry_else pick
    step-entry vs e = rw (ne_eqb n plugins other, e)

    -- no entry, default `*`, and the keyword doesn't stand: the empty list
    pub step-closed : entry_of is_semicolon allow n ≡ None → default_of n ≡ Some star → has_keyword (text "allow-" ++ name_of n) ws ≡ false → attribute_policy allow mark (Some ws) n ≡ Some empty_list
    unfolding attribute_policy closes_plugins entry_else sandbox_closes has_default_star keyword_of keyword_stands pick
    step-closed e d k = rw (ne_eqb n plugins other, e, d, k)

    -- the keyword stands, or the default isn't `*`: as without a sandbox attribute
    pub step-keyword : entry_of is_semicolon allow n ≡ None → has_keyword (text "allow-" ++ name_of n) ws ≡ true → attribute_policy allow mark (Some ws) n ≡ attribute_policy allow mark None n
    unfolding attribute_policy closes_plugins entry_else sandbox_closes has_default_star keyword_of keyword_stands pick
    step-keyword e k = rw (ne_eqb n plugins other, e) (go (is_star_default (default_of n)))
      where
        go : (b : Bool) → pick (b && not (keyword_stands (pick (b && not false) (Some (text "allow-" ++ name_of n)) None) ws)) (Some empty_list) (allowed_fullscreen mark n) ≡ allowed_fullscreen mark n
        go true = rw k
        go false = refl

    pub step-self : entry_of is_semicolon allow n ≡ None → (default_of n ≡ Some star → ⊥) → attribute_policy allow mark (Some ws) n ≡ attribute_policy allow mark None n
    unfolding attribute_policy closes_plugins entry_else sandbox_closes has_default_star pick
    step-self e d = rw (ne_eqb n plugins other, e) (go (default_of n) d)
      where
        go : (x : Option Default) → (x ≡ Some star → ⊥) → pick (is_star_default x && not (keyword_stands (keyword_of n) ws)) (Some empty_list) (allowed_fullscreen mark n) ≡ allowed_fullscreen mark n
        go (Some star) h = absurd (h refl)
        go (Some self) h = refl
        go None h = refl

-- without one: an entry's list, or `*` for fullscreen with allowfullscreen, as 01 has it
pub step-absent : (a : Attributes) → a.has_sandbox ≡ false → (n : ℕ) → container_policy a n ≡ entry_else (allowed_fullscreen a.allowfullscreen n) (entry_of is_semicolon a.allow n)
unfolding container_policy attribute_policy sandbox_words closes_plugins sandbox_closes pick
step-absent a e n = rw e

-- then an empty allow attribute gives no list, as an absent one, where allowfullscreen doesn't stand
pub empty-policy : (n : ℕ) → attribute_policy [] false None n ≡ None
unfolding attribute_policy closes_plugins sandbox_closes entry_else allowed_fullscreen pick
empty-policy n = rw (empty-entry is_semicolon n)

-- a frame's document is sandboxed by the container document or by the attributes
pub sandboxed-is : (above : Bool) (a : Attributes) → is_sandboxed above a ≡ above || sandboxes a
unfolding is_sandboxed
sandboxed-is above a = refl

-- a frame of a sandboxed document is sandboxed, with whatever attributes
pub sandboxed-below : (a : Attributes) → is_sandboxed true a ≡ true
unfolding is_sandboxed
sandboxed-below a = refl

-- there is a declared origin wherever src is an origin text: in a sandboxed frame a fresh one, else what src says
pub declared-fresh : (above : Bool) (a : Attributes) (container : Origin) → (origin_of a.src ≡ no_origin → ⊥) → is_sandboxed above a ≡ true → declared_origin above a container ≡ Some fresh
unfolding declared_origin
declared-fresh above a container h e = rw e (go (origin_of a.src) h)
  where
    go : (x : OriginSaid) → (x ≡ no_origin → ⊥) → fresh_if true (src_origin x container) ≡ Some fresh
    go says_empty g = unfold fresh_if src_origin pick in refl
    go says_null g = unfold fresh_if src_origin pick in refl
    go (says_tuple t) g = unfold fresh_if src_origin pick in refl
    go no_origin g = absurd (g refl)

module _ (above : Bool) (a : Attributes) (container : Origin) (e : is_sandboxed above a ≡ false) where
  pub declared-empty : origin_of a.src ≡ says_empty → declared_origin above a container ≡ Some container
  unfolding declared_origin fresh_if src_origin pick
  declared-empty k = rw (e, k)

  pub declared-null : origin_of a.src ≡ says_null → declared_origin above a container ≡ Some fresh
  unfolding declared_origin fresh_if src_origin pick
  declared-null k = rw (e, k)

  pub declared-tuple : (t : TupleOrigin) → origin_of a.src ≡ says_tuple t → declared_origin above a container ≡ Some (tuple t)
  unfolding declared_origin fresh_if src_origin pick
  declared-tuple t k = rw (e, k)

pub declared-bad : (above : Bool) (a : Attributes) (container : Origin) → origin_of a.src ≡ no_origin → declared_origin above a container ≡ None
unfolding declared_origin fresh_if src_origin
declared-bad above a container k = rw k

pub good-declared : (above : Bool) (a : Attributes) (container : Origin) → (origin_of a.src ≡ no_origin → ⊥) → (o : Origin) × (declared_origin above a container ≡ Some o)
good-declared above a container h = go (is_sandboxed above a) refl (origin_of a.src) refl
  where
    go : (b : Bool) → is_sandboxed above a ≡ b → (x : OriginSaid) → origin_of a.src ≡ x → (o : Origin) × (declared_origin above a container ≡ Some o)
    go true e x k = (fresh, declared-fresh above a container h e)
    go false e says_empty k = (container, declared-empty above a container e k)
    go false e says_null k = (fresh, declared-null above a container e k)
    go false e (says_tuple t) k = (tuple t, declared-tuple above a container e t k)
    go false e no_origin k = absurd (h k)

-- with one word more in an allow attribute, the same features have lists, and no list admits less
grown-wide : (other : Option Allowlist) {d e : Option (List (List ℕ))} → Grown d e → AsWide (entry_else other d) (entry_else other e)
unfolding entry_else
grown-wide other (same {e = e}) = as-wide-self (entry_else other e)
grown-wide other (grown front back w h) = both (word-wider src front back w h)

same-closed : (b : Bool) {d e : Option Allowlist} → AsWide d e → AsWide (pick b (Some empty_list) d) (pick b (Some empty_list) e)
unfolding pick
same-closed true w = as-wide-self (Some empty_list)
same-closed false w = w

pub word-as-wide : {a b : Attributes} → WordMore a b → (n : ℕ) → AsWide (container_policy a n) (container_policy b n)
unfolding container_policy attribute_policy
word-as-wide (word_more {x = x} {y = y} o) n = same-closed _ (grown-wide _ (entry-grown is_semicolon x y o n))

-- and the document is sandboxed in both or in neither, with the same declared origin
pub word-sandboxed : {a b : Attributes} → WordMore a b → (above : Bool) → is_sandboxed above a ≡ is_sandboxed above b
unfolding is_sandboxed
word-sandboxed (word_more o) above = refl

pub word-declared : {a b : Attributes} → WordMore a b → (above : Bool) (container : Origin) → declared_origin above a container ≡ declared_origin above b container
unfolding declared_origin is_sandboxed
word-declared (word_more o) above container = refl

-- ---- one keyword more in a sandbox attribute

-- a keyword is `allow-` and the name of the feature that it is found by
pub keyword-found : (n : ℕ) (k : List ℕ) → keyword_of n ≡ Some k → feature_of (drop 6 k) ≡ Some n
unfolding keyword_of has_default_star
keyword-found n k = go (ltb n feature_count) refl (is_star_default (default_of n) && not (eqb n plugins)) refl
  where
    named : n < feature_count → Some (text "allow-" ++ name_of n) ≡ Some k → feature_of (drop 6 k) ≡ Some n
    named h e = let q : text "allow-" ++ name_of n ≡ k = cc in rw (← q) (found n h)

    no_default : feature_count ≤ n → is_star_default (default_of n) && not (eqb n plugins) ≡ false
    no_default h = rw (default_none n h)

    go : (a : Bool) → ltb n feature_count ≡ a → (b : Bool) → is_star_default (default_of n) && not (eqb n plugins) ≡ b → pick b (Some (text "allow-" ++ name_of n)) None ≡ Some k → feature_of (drop 6 k) ≡ Some n
    go true t true u e = named (omega (arith, ltb-true)) (unfold pick in e)
    go false t true u e = let f : true ≡ false = sym u ∙ no_default (omega (arith, ltb-false)) in clash cc
    go a t false u e = clash (unfold pick in cc)

-- `allow-same-origin` is no feature's
pub same-origin-keyword : (n : ℕ) → keyword_of n ≡ Some allow_same_origin → ⊥
same-origin-keyword n e =
    let f : feature_of (text "same-origin") ≡ Some n = keyword-found n allow_same_origin e in
    let g : feature_of (text "same-origin") ≡ None = unfold computing in refl in
    clash cc

module _ {s t : List ℕ} (o : OneKeywordMore s t) where
  -- the added word isn't `allow-same-origin`
  other : same_lowered o.word allow_same_origin ≡ false
  other = go (same_lowered o.word allow_same_origin) refl
    where
      go : (b : Bool) → same_lowered o.word allow_same_origin ≡ b → b ≡ false
      go true e =
          let q : o.keyword ≡ allow_same_origin = sym (same-is lower o.word o.keyword o.any_case) ∙ same-is lower o.word allow_same_origin e in
          absurd (same-origin-keyword o.feature (o.is_keyword ∙ ap Some q))
      go false e = refl

  same-origin-stays : has_keyword allow_same_origin (words s) ≡ has_keyword allow_same_origin (words t)
  same-origin-stays = rw (o.first, o.second) (sym (keyword-other allow_same_origin o.front o.back o.word other))

  -- a keyword that stood still stands
  still-stands : (k : Option (List ℕ)) → keyword_stands k (words s) ≡ true → keyword_stands k (words t) ≡ true
  unfolding keyword_stands
  still-stands (Some k) e = rw o.second (more-words k o.front o.back o.word (rw o.first at e))
  still-stands None e = e

  -- so what the second closes the first closes
  fewer-closed : (n : ℕ) → sandbox_closes (Some (words s)) n ≡ false → sandbox_closes (Some (words t)) n ≡ false
  unfolding sandbox_closes
  fewer-closed n = go (has_default_star n) (keyword_stands (keyword_of n) (words s)) (keyword_stands (keyword_of n) (words t)) (still-stands (keyword_of n))
    where
      go : (a b c : Bool) → (b ≡ true → c ≡ true) → a && not b ≡ false → a && not c ≡ false
      go false b c h e = refl
      go true true c h e = rw (h refl)
      go true false c h e = clash cc

  less-closed : (mark : Bool) (n : ℕ) → AsWideOrOpened (pick (sandbox_closes (Some (words s)) n) (Some empty_list) (allowed_fullscreen mark n)) (pick (sandbox_closes (Some (words t)) n) (Some empty_list) (allowed_fullscreen mark n))
  less-closed mark n = go (sandbox_closes (Some (words s)) n) (sandbox_closes (Some (words t)) n) (fewer-closed n)
    where
      go : (a b : Bool) → (a ≡ false → b ≡ false) → AsWideOrOpened (pick a (Some empty_list) (allowed_fullscreen mark n)) (pick b (Some empty_list) (allowed_fullscreen mark n))
      go true b h = unfold pick in (from_empty _)
      go false b h = rw (h refl) (as_wide (as-wide-self _))

else-opened : (e : Option (List (List ℕ))) {c d : Option Allowlist} → AsWideOrOpened c d → AsWideOrOpened (entry_else c e) (entry_else d e)
unfolding entry_else
else-opened (Some ws) w = as_wide (as-wide-self (Some (entry_list src ws)))
else-opened None w = w

plugins-opened : (b : Bool) {c d : Option Allowlist} → AsWideOrOpened c d → AsWideOrOpened (pick b (Some empty_list) c) (pick b (Some empty_list) d)
unfolding pick
plugins-opened true w = as_wide (as-wide-self (Some empty_list))
plugins-opened false w = w

-- no list admits less, and the feature that the keyword opens had the empty one
pub keyword-opens : {a b : Attributes} → KeywordMore a b → (n : ℕ) → AsWideOrOpened (container_policy a n) (container_policy b n)
unfolding container_policy attribute_policy sandbox_words closes_plugins pick
keyword-opens (keyword_more {allow = allow} {fullscreen = mark} o) n = plugins-opened (eqb n plugins) (else-opened (entry_of is_semicolon allow n) (less-closed o mark n))

-- and the document is sandboxed in both or in neither, with the same declared origin
pub keyword-sandboxed : {a b : Attributes} → KeywordMore a b → (above : Bool) → is_sandboxed above a ≡ is_sandboxed above b
unfolding is_sandboxed sandbox_words without_same_origin pick
keyword-sandboxed (keyword_more o) above = ap (λ (k : Bool). above || not k) (same-origin-stays o)

pub keyword-declared : {a b : Attributes} → KeywordMore a b → (above : Bool) (container : Origin) → declared_origin above a container ≡ declared_origin above b container
unfolding declared_origin
keyword-declared (keyword_more {src = x} o) above container = ap (λ (k : Bool). fresh_if k (src_origin (origin_of x) container)) (keyword-sandboxed (keyword_more o) above)
