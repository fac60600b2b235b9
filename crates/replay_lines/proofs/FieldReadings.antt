-- What a field's readings in the code say of the field. Assumes nothing.
use mathlib.Core.Path.{◌≡◌, refl, ap, ◌∙◌, sym}
use Prim.Native.Nat.{ℕ, suc, ◌+◌, ◌-◌, ◌*◌, ◌≤◌, ◌<◌, min}
use mathlib.Core.List.{List, [], ◌∷◌}
use mathlib.Core.Bool.{Bool, true, false, not, ◌&&◌}
use Rattle.std.specs.Prelude.{Option, Some, None, option_and_then, option_copied}
use Rattle.std.proofs.Common.{Bor, subst}
use native.Mathlib.Omega.{arith}
use lib.ListN.{length, take, drop, get_or, length-drop}
use lib.Seq.{take_all, take-nil, drop-drop}
use borrow.Author.Tests.{eq-eqb, ne_eqb, not-true, not-false}
use Rattle.ascii.specs.Bytes.{pick}
use Rattle.ascii.specs.Literals.{text}
use Rattle.ascii.specs.Reading.{head_of}
use Rattle.ascii.specs.Places.{IsByte}
use Rattle.ascii.specs.Texts.{part_of, same_bytes}
use Rattle.ascii.proofs.Texts.{part-in}
use Rattle.replay_lines.specs.Format.{Said, nothing, text_at, sandbox_at}
use Rattle.replay_lines.specs.Reading.{field_limit, field_bytes, line_bytes, kept_text, is_whole, kept_sandbox, kept_says}
use Rattle.replay_lines.specs.Answers.{slot_of, kept_in, field_in, said_in, literal_as, IsFieldAt, IsLiteral}
use Rattle.replay_lines.specs.declared.FieldState.{FieldState}
use Rattle.replay_lines.proofs.Slots.{take-least, kept-long, kept-part}

-- a field that has no `%`, or has one
module _ (run : List ℕ) (fs : List FieldState) (j : ℕ) (f : FieldState) (is : IsFieldAt fs j f) (w : Bool) (u : w ≡ literal_as f) where
  literal-as : (t : Option (List ℕ)) → IsLiteral (kept_says (field_in run j f)) t → IsLiteral (get_or (said_in run fs) j nothing) t
  literal-as t = subst (λ (x : Said). IsLiteral x t) (is.says run)

  pub literal-some : w ≡ true → (t : List ℕ) → t ≡ kept_in run j f.kept → IsLiteral (get_or (said_in run fs) j nothing) (Some t)
  unfolding kept_says field_in pick
  literal-some e t k = let v : literal_as f ≡ true = sym u ∙ e in literal-as (Some t) (record { name = rw (v, k) refl; number = rw (v, k) refl; mark = rw (v, k) refl })

  pub literal-none : w ≡ false → IsLiteral (get_or (said_in run fs) j nothing) None
  unfolding kept_says field_in pick
  literal-none e = let v : literal_as f ≡ false = sym u ∙ e in literal-as None (record { name = rw v refl; number = rw v refl; mark = rw v refl })

-- a reading of such a field
module _ {A : Type 0} (read : List ℕ → Option A) (x : Option A) (r : Option (Bor (List ℕ))) (is : x ≡ option_and_then read (option_copied r)) where
  pub unread : r ≡ None → None ≡ x
  unread e = sym (is ∙ ap (λ (o : Option (Bor (List ℕ))). option_and_then read (option_copied o)) e)

  pub read-as : (t : Bor (List ℕ)) (y : Option A) → r ≡ Some t → y ≡ read t.now → y ≡ x
  read-as t y e f = f ∙ sym (is ∙ ap (λ (o : Option (Bor (List ℕ))). option_and_then read (option_copied o)) e)

drop-take : (n : ℕ) (l : List ℕ) → drop 1 (take (suc n) l) ≡ take n (drop 1 l)
drop-take n [] = sym (take-nil n)
drop-take n (x ∷ xs) = refl

-- parts of the run within a field's part
module _ (run : List ℕ) (j : ℕ) (s : length run ≡ line_bytes) (h : j < field_limit) (n : ℕ) where
  -- its first bytes
  kept-front : (m : ℕ) → m ≤ field_bytes → part_of run (j * field_bytes) (j * field_bytes + min (length (kept_in run j n)) m) ≡ take m (kept_in run j n)
  unfolding kept_in
  kept-front m g =
      let l : length (kept_in run j n) ≡ min n field_bytes = kept-long run j s h n in
      let q : min (length (kept_in run j n)) m ≡ min (min m n) field_bytes = omega arith in
      rw q (kept-part run j s h (min m n) ∙ take-least m n (slot_of run j))

  -- what stands past its first byte
  kept-rest : 1 ≤ length (kept_in run j n) → part_of run (j * field_bytes + 1) (j * field_bytes + length (kept_in run j n)) ≡ take kept_text (drop 1 (kept_in run j n))
  unfolding kept_in
  kept-rest g =
      let a = j * field_bytes in
      let d = drop a run in
      let l : length (kept_in run j n) ≡ min n field_bytes = kept-long run j s h n in
      let q = min n field_bytes in
      let z : q ≡ suc (q - 1) = omega arith in
      let w : a + q - (a + 1) ≡ q - 1 = omega arith in
      let v : length (drop 1 (kept_in run j n)) ≤ kept_text = omega (arith, length-drop 1 (kept_in run j n)) in
      rw (l)
      (sym (part-in run (a + 1) (a + q) (omega arith) (omega arith))
      ∙ (rw w (ap (take (q - 1)) (sym (drop-drop 1 a run)))
      ∙ (sym (drop-take (q - 1) d)
      ∙ (ap (λ (k : ℕ). drop 1 (take k d)) (sym z)
      ∙ (ap (λ (t : List ℕ). drop 1 t) (take-least n field_bytes d) ∙ sym (take_all kept_text (drop 1 (kept_in run j n)) v))))))

-- a text
module _ (run : List ℕ) (fs : List FieldState) (j : ℕ) (f : FieldState) (is : IsFieldAt fs j f) (w : Bool) (u : w ≡ is_whole f.place) where
  kept-text : is_whole f.place ≡ true → Some (take kept_text (kept_in run j f.kept)) ≡ (kept_says (field_in run j f)).decoded
  unfolding kept_says field_in pick
  kept-text x = rw x

  no_text : is_whole f.place ≡ false → None ≡ (kept_says (field_in run j f)).decoded
  unfolding kept_says field_in pick
  no_text x = rw x

  pub text-some : w ≡ true → length run ≡ line_bytes → j < field_limit → (t : List ℕ) → t ≡ kept_in run j f.kept → (n : ℕ) → n ≡ min (length t) kept_text → Some (part_of run (j * field_bytes) (j * field_bytes + n)) ≡ text_at (said_in run fs) j
  text-some e s h t k n m =
      rw (m, k, kept-front run j s h f.kept kept_text (omega arith)) (kept-text (sym u ∙ e)) ∙ ap (λ (x : Said). x.decoded) (is.says run)

  pub text-none : w ≡ false → None ≡ text_at (said_in run fs) j
  text-none e = no_text (sym u ∙ e) ∙ ap (λ (x : Said). x.decoded) (is.says run)

  -- SANDBOX
  no-box : is_whole f.place && not f.opens ≡ false → None ≡ (kept_says (field_in run j f)).sandbox
  unfolding kept_says field_in pick
  no-box x = rw x

  kept-box : is_whole f.place && not f.opens ≡ true → (t : List ℕ) → t ≡ kept_in run j f.kept → kept_sandbox t ≡ (kept_says (field_in run j f)).sandbox
  unfolding kept_says field_in pick
  kept-box x t k = rw (x, k)

  pub sandbox-none : not (w && not f.opens) ≡ true → None ≡ sandbox_at (said_in run fs) j
  sandbox-none e =
      let x : is_whole f.place && not f.opens ≡ false = rw u at (not-true (w && not f.opens) e) in
      no-box x ∙ ap (λ (x : Said). x.sandbox) (is.says run)

  module _ (e : not (w && not f.opens) ≡ false) (t : List ℕ) (k : t ≡ kept_in run j f.kept) (x : ℕ) (i : IsByte t 0 x) where
    box : kept_sandbox t ≡ sandbox_at (said_in run fs) j
    box =
        let y : is_whole f.place && not f.opens ≡ true = rw u at (not-false (w && not f.opens) e) in
        kept-box y t k ∙ ap (λ (x : Said). x.sandbox) (is.says run)

    box-text : head_of t ≡ 49 → Some (record { stands = true; attribute = take kept_text (drop 1 t) }) ≡ kept_sandbox t
    unfolding kept_sandbox pick
    box-text y = rw (eq-eqb (head_of t) 49 y)

    pub sandbox-text : length run ≡ line_bytes → j < field_limit → x ≡ 49 → Some (record { stands = true; attribute = part_of run (j * field_bytes + 1) (j * field_bytes + length t) }) ≡ sandbox_at (said_in run fs) j
    sandbox-text s h q =
        let y : head_of t ≡ 49 = sym i.is ∙ q in
        let g : 1 ≤ length t = omega (arith, i.there) in
        rw (k, kept-rest run j s h f.kept (rw k at g), ← k) (box-text y) ∙ box

    module _ (q : x ≡ 49 → ⊥) (z : Bool) (v : z ≡ same_bytes t (text "0")) where
      box-absent : same_bytes t (text "0") ≡ true → Some (record { stands = false; attribute = [] }) ≡ kept_sandbox t
      unfolding kept_sandbox pick
      box-absent b = rw (ne_eqb (head_of t) 49 (λ y. q (i.is ∙ y)), b)

      box-none : same_bytes t (text "0") ≡ false → None ≡ kept_sandbox t
      unfolding kept_sandbox pick
      box-none b = rw (ne_eqb (head_of t) 49 (λ y. q (i.is ∙ y)), b)

      pub sandbox-absent : z ≡ true → Some (record { stands = false; attribute = part_of run 0 0 }) ≡ sandbox_at (said_in run fs) j
      sandbox-absent b = rw (← part-in run 0 0 (omega arith) (omega arith)) (box-absent (sym v ∙ b)) ∙ box

      pub sandbox-other : z ≡ false → None ≡ sandbox_at (said_in run fs) j
      sandbox-other b = box-none (sym v ∙ b) ∙ box
