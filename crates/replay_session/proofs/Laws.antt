-- The laws of lines and their answers that the crates above cite: "at most one byte more than the limit is kept of each" text of a line, and its answer and the table that it leaves stay the same. Assumes nothing.
use mathlib.Core.Path.{◌≡◌, refl, ap, ◌∙◌, sym}
use Prim.Native.Nat.{ℕ, ◌<◌}
use mathlib.Core.Bool.{Bool, true, false, ◌&&◌}
use native.Mathlib.Omega.{arith}
use lib.ListN.{length, length-take}
use lib.Seq.{take_all}
use lib.Dec.{leb}
use borrow.Author.Tests.{leb-true, leb-false, lt-leb}
use Rattle.ascii.proofs.Bytes.{and_left, and_right}
use Rattle.limits.specs.Limits.{text_bytes}
use Rattle.origins.specs.Origins.{OriginSaid, origin_of}
use Rattle.origins.specs.Origins.OriginSaid.{says_empty, says_null, says_tuple, no_origin}
use Rattle.origins.specs.NormalForms.{origin_bytes}
use Rattle.origins.proofs.Laws.{empty-text, null-text, tuple-length}
use Rattle.containers.specs.Attributes.{Attributes}
use Rattle.tidying.specs.Tidied.{tidied}
use Rattle.tidying.specs.Answers.{tidy_answer}
use Rattle.tidying.proofs.Rooms.{answer-long}
use Rattle.document_model.specs.Model.{Text, is_good_origin, is_good_at_top, is_short, Table as ModelTable, Call, top_load, framed_load, question, forecast_of, outcome, answer_to, table_left}
use Rattle.document_model.proofs.RowByRow.{answer-of, table_of, question_bad, forecast-long, forecast-bad, top-long, top_bad, framed-long, framed_bad, framed_src}
use Rattle.replay_answers.specs.Texts.{answer_text}
use Rattle.replay_lines.specs.Format.{Line, line_of}
use Rattle.replay_lines.specs.Format.Line.{top, frame, unload, ask, enabled, beneath, forecast, tidy, bad_line}
use Rattle.replay_lines.specs.Reading.{kept_text, new_reading, read_on, line_from, cut, cut_attributes, cut_line}
use Rattle.replay_lines.proofs.Laws.{line-read}
use Rattle.replay_session.specs.Session.{tidy_line_text, line_answer, line_table}

-- ---- texts

-- a text of at most the limit is its own cut, and the cut of a longer one is over the limit too
cut-own : (s : Text) → is_short s ≡ true → cut s ≡ s
cut-own s e = take_all kept_text s (omega (arith, leb-true (length s) text_bytes e))

cut-long : (s : Text) → text_bytes < length s → text_bytes < length (cut s)
cut-long s h = omega (arith, length-take kept_text s)

cut_short : (s : Text) → is_short (cut s) ≡ is_short s
cut_short s = go (is_short s) refl
  where
    go : (b : Bool) → is_short s ≡ b → is_short (cut s) ≡ b
    go true e = ap is_short (cut-own s e) ∙ e
    go false e = lt-leb (length (cut s)) text_bytes (cut-long s (leb-false (length s) text_bytes e))

-- a text longer than every origin's is no origin text
long-said : (s : Text) (x : OriginSaid) → origin_bytes < length s → origin_of s ≡ x → x ≡ no_origin
long-said s says_empty h e = absurd (omega (arith, ap length (empty-text s e)))
long-said s says_null h e = absurd (omega (arith, ap length (null-text s e)))
long-said s (says_tuple o) h e = absurd (omega (arith, tuple-length s o e))
long-said s no_origin h e = refl

pub long-origin : (s : Text) → origin_bytes < length s → origin_of s ≡ no_origin
long-origin s h = long-said s (origin_of s) h refl

-- a text is its own cut; or it is too long for an origin text, and so is its cut
data OriginCut (s : Text) : Type 0 where
  own : cut s ≡ s → OriginCut s
  neither : origin_of (cut s) ≡ no_origin → origin_of s ≡ no_origin → OriginCut s

origin-cut : (s : Text) → OriginCut s
origin-cut s = go (leb (length s) kept_text) refl
  where
    go : (b : Bool) → leb (length s) kept_text ≡ b → OriginCut s
    go true e = own (take_all kept_text s (leb-true (length s) kept_text e))
    go false e =
        let h : kept_text < length s = leb-false (length s) kept_text e in
        neither (long-origin (cut s) (omega (arith, length-take kept_text s))) (long-origin s (omega arith))

-- ---- calls: each has the same outcome with its texts cut

module _ (t : ModelTable) where
  question-cut : (s f : ℕ) (o : Text) → outcome (question s f (cut o)) t ≡ outcome (question s f o) t
  question-cut s f o = go (origin-cut o)
    where
      go : OriginCut o → outcome (question s f (cut o)) t ≡ outcome (question s f o) t
      go (own e) = rw e
      go (neither e g) = question_bad s f (cut o) t (ap is_good_origin e) ∙ sym (question_bad s f o t (ap is_good_origin g))

  top-cut : (h o : Text) → outcome (top_load (cut h) (cut o)) t ≡ outcome (top_load h o) t
  top-cut h o = go (is_short h) refl
    where
      go : (b : Bool) → is_short h ≡ b → outcome (top_load (cut h) (cut o)) t ≡ outcome (top_load h o) t
      go false e = top-long (cut h) (cut o) t (cut_short h ∙ e) ∙ sym (top-long h o t e)
      go true e = rw (cut-own h e) (by-origin (origin-cut o))
        where
          by-origin : OriginCut o → outcome (top_load h (cut o)) t ≡ outcome (top_load h o) t
          by-origin (own f) = rw f
          by-origin (neither f g) = top_bad h (cut o) t e (ap is_good_at_top f) ∙ sym (top_bad h o t e (ap is_good_at_top g))

  module _ (a : Attributes) where
    attributes-own : cut a.allow ≡ a.allow → cut a.sandbox ≡ a.sandbox → cut a.src ≡ a.src → cut_attributes a ≡ a
    attributes-own e f g = λ i. record { allow = e i; allowfullscreen = a.allowfullscreen; has_sandbox = a.has_sandbox; sandbox = f i; src = g i }

    forecast-cut : (c : ℕ) → outcome (forecast_of c (cut_attributes a)) t ≡ outcome (forecast_of c a) t
    forecast-cut c = go (is_short a.allow && is_short a.sandbox) refl
      where
        same : is_short (cut a.allow) && is_short (cut a.sandbox) ≡ is_short a.allow && is_short a.sandbox
        same = rw (cut_short a.allow, cut_short a.sandbox)

        go : (b : Bool) → is_short a.allow && is_short a.sandbox ≡ b → outcome (forecast_of c (cut_attributes a)) t ≡ outcome (forecast_of c a) t
        go false e = forecast-long c (cut_attributes a) t (same ∙ e) ∙ sym (forecast-long c a t e)
        go true e = by-src (origin-cut a.src)
          where
            allow : cut a.allow ≡ a.allow
            allow = cut-own a.allow (and_left (is_short a.allow) (is_short a.sandbox) e)

            sandbox : cut a.sandbox ≡ a.sandbox
            sandbox = cut-own a.sandbox (and_right (is_short a.allow) (is_short a.sandbox) e)

            by-src : OriginCut a.src → outcome (forecast_of c (cut_attributes a)) t ≡ outcome (forecast_of c a) t
            by-src (own f) = ap (λ (x : Attributes). outcome (forecast_of c x) t) (attributes-own allow sandbox f)
            by-src (neither f g) = forecast-bad c (cut_attributes a) t (same ∙ e) (ap is_good_origin f) ∙ sym (forecast-bad c a t e (ap is_good_origin g))

    framed-cut : (c : ℕ) (h o : Text) → outcome (framed_load c (cut h) (cut o) (cut_attributes a)) t ≡ outcome (framed_load c h o a) t
    framed-cut c h o = go (is_short h && is_short a.allow && is_short a.sandbox) refl
      where
        same : is_short (cut h) && is_short (cut a.allow) && is_short (cut a.sandbox) ≡ is_short h && is_short a.allow && is_short a.sandbox
        same = rw (cut_short h, cut_short a.allow, cut_short a.sandbox)

        go : (b : Bool) → is_short h && is_short a.allow && is_short a.sandbox ≡ b → outcome (framed_load c (cut h) (cut o) (cut_attributes a)) t ≡ outcome (framed_load c h o a) t
        go false e = framed-long c (cut h) (cut o) (cut_attributes a) t (same ∙ e) ∙ sym (framed-long c h o a t e)
        go true e = by-origin (origin-cut o)
          where
            two : is_short h && is_short a.allow ≡ true
            two = and_left (is_short h && is_short a.allow) (is_short a.sandbox) e

            header : cut h ≡ h
            header = cut-own h (and_left (is_short h) (is_short a.allow) two)

            allow : cut a.allow ≡ a.allow
            allow = cut-own a.allow (and_right (is_short h) (is_short a.allow) two)

            sandbox : cut a.sandbox ≡ a.sandbox
            sandbox = cut-own a.sandbox (and_right (is_short h && is_short a.allow) (is_short a.sandbox) e)

            by-origin : OriginCut o → outcome (framed_load c (cut h) (cut o) (cut_attributes a)) t ≡ outcome (framed_load c h o a) t
            by-origin (neither f g) = framed_bad c (cut h) (cut o) (cut_attributes a) t (same ∙ e) (ap is_good_origin f) ∙ sym (framed_bad c h o a t e (ap is_good_origin g))
            by-origin (own f) = by-src (is_good_origin (origin_of o)) refl (origin-cut a.src)
              where
                by-src : (b : Bool) → is_good_origin (origin_of o) ≡ b → OriginCut a.src → outcome (framed_load c (cut h) (cut o) (cut_attributes a)) t ≡ outcome (framed_load c h o a) t
                by-src b k (own g) = rw (header, f) (ap (λ (x : Attributes). outcome (framed_load c h o x) t) (attributes-own allow sandbox g))
                by-src true k (neither g n) = framed_src c (cut h) (cut o) (cut_attributes a) t (same ∙ e) (rw f k) (ap is_good_origin g) ∙ sym (framed_src c h o a t e k (ap is_good_origin n))
                by-src false k (neither g n) = framed_bad c (cut h) (cut o) (cut_attributes a) t (same ∙ e) (rw f k) ∙ sym (framed_bad c h o a t e k)

  -- calls of one outcome have one answer, and leave one table
  answer-same : (c d : Call) → outcome c t ≡ outcome d t → answer_text (answer_to c t) ≡ answer_text (answer_to d t)
  answer-same c d e = ap answer_text (answer-of c t (outcome d t) e ∙ sym (answer-of d t (outcome d t) refl))

  table_same : (c d : Call) → outcome c t ≡ outcome d t → table_left c t ≡ table_left d t
  table_same c d e = table_of c t (outcome d t) e ∙ sym (table_of d t (outcome d t) refl)

-- ---- tidying

tidy-cut : (room : ℕ) (h : Text) → tidy_line_text (tidy_answer (cut h) room) (tidied (cut h)) ≡ tidy_line_text (tidy_answer h room) (tidied h)
tidy-cut room h = go (is_short h) refl
  where
    go : (b : Bool) → is_short h ≡ b → tidy_line_text (tidy_answer (cut h) room) (tidied (cut h)) ≡ tidy_line_text (tidy_answer h room) (tidied h)
    go true e = rw (cut-own h e)
    go false e =
        let n : text_bytes < length h = leb-false (length h) text_bytes e in
        rw (answer-long (cut h) room (cut-long h n), answer-long h room n)

-- ---- lines

-- a line's texts cut to one byte more than the limit: the same answer, the same table
pub cut-answer : (l : Line) (t : ModelTable) → line_answer (cut_line l) t ≡ line_answer l t
unfolding line_answer
cut-answer (top o h) t = answer-same t (top_load (cut h) (cut o)) (top_load h o) (top-cut t h o)
cut-answer (frame c o a h) t = answer-same t (framed_load c (cut h) (cut o) (cut_attributes a)) (framed_load c h o a) (framed-cut t a c h o)
cut-answer (unload s) t = refl
cut-answer (ask s f o) t = answer-same t (question s f (cut o)) (question s f o) (question-cut t s f o)
cut-answer (enabled s) t = refl
cut-answer (beneath s room) t = refl
cut-answer (forecast c a) t = answer-same t (forecast_of c (cut_attributes a)) (forecast_of c a) (forecast-cut t a c)
cut-answer (tidy room h) t = tidy-cut room h
cut-answer bad_line t = refl

pub cut-table : (l : Line) (t : ModelTable) → line_table (cut_line l) t ≡ line_table l t
unfolding line_table
cut-table (top o h) t = table_same t (top_load (cut h) (cut o)) (top_load h o) (top-cut t h o)
cut-table (frame c o a h) t = table_same t (framed_load c (cut h) (cut o) (cut_attributes a)) (framed_load c h o a) (framed-cut t a c h o)
cut-table (unload s) t = refl
cut-table (ask s f o) t = refl
cut-table (enabled s) t = refl
cut-table (beneath s room) t = refl
cut-table (forecast c a) t = refl
cut-table (tidy room h) t = refl
cut-table bad_line t = refl

-- a line, read byte by byte and its texts cut, is answered as the line that its bytes are
pub line-answers : (s : Text) (t : ModelTable) → line_answer (line_from (read_on new_reading s)) t ≡ line_answer (line_of s) t
line-answers s t = ap (λ (l : Line). line_answer l t) (line-read s) ∙ cut-answer (line_of s) t

-- and leaves the same table
pub line-tables : (s : Text) (t : ModelTable) → line_table (line_from (read_on new_reading s)) t ≡ line_table (line_of s) t
line-tables s t = ap (λ (l : Line). line_table l t) (line-read s) ∙ cut-table (line_of s) t
