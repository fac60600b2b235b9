-- An answer and its line feed have room behind those that wait. Assumes nothing.
use Rattle.std.specs.Prelude.{Result, Ok, Err, ⊤}
use mathlib.Core.Path.{◌≡◌, refl, ap, sym, ◌∙◌}
use Prim.Native.Nat.{ℕ, ◌+◌, ◌≤◌}
use mathlib.Core.List.{List, [], ◌∷◌}
use mathlib.Core.Bool.{Bool, true}
use Rattle.std.specs.Prelude.{Some, None}
use native.Mathlib.Omega.{arith}
use lib.ListN.{length, length-append}
use lib.Dec.{ltb}
use borrow.Author.Tests.{ltb-true, lt-ltb, le-ltb}
use Rattle.ascii.specs.Bytes.{pick}
use Rattle.ascii.proofs.Clash.{clash}
use Rattle.limits.specs.declared.Refusal.{Refusal}
use Rattle.limits.specs.Refusals.{refusal_number}
use Rattle.writing.specs.Writing.{Puts}
use Rattle.writing.proofs.Laws.{puts-on}
use Rattle.document_table.specs.Layout.{table_bytes, view}
use Rattle.replay_answers.specs.Texts.{answer_bytes}
use Rattle.replay_lines.specs.Format.{Line}
use Rattle.replay_lines.specs.declared.LineState.{LineState}
use Rattle.replay_session.specs.Session.{line_answer, line_table}
use Rattle.replay_session.specs.Answers.{line_bytes, Answers}
use Rattle.documents.specs.Answers.{Valid, new_in, new_refusal, IsNew}
use Rattle.replaying.specs.declared.Session.{Session}
use Rattle.replaying.specs.Sessions.{out_bytes, Ready, line_read, answer_line, Ends, Replayed}

module _ (run u : List ℕ) (s : LineState) (waiting : ℕ) (l : Line) (texts before after last : List ℕ) (r to : ℕ) (ready : Ready run waiting) (long : length before ≡ out_bytes) (is : l ≡ line_read texts s)
    (a : Answers l run u before waiting after r) (p : Puts after r (10 ∷ []) last to) where
  both : Puts before waiting (answer_line run texts s) last to
  both = rw (← is) (puts-on before after waiting r (line_answer l (view run)) a.says.puts last (10 ∷ []) to p)

  fits : waiting + length (answer_line run texts s) ≤ out_bytes
  fits = rw (← is) (omega (arith, ready.room, a.says.short, length-append (line_answer l (view run)) (10 ∷ [])))

  place : to ≡ waiting + length (answer_line run texts s)
  place = omega (arith, both.to, fits, long)

  left : view u ≡ line_table (line_read texts s) (view run)
  left = rw (← is) a.table

  bytes : u ≡ line_bytes (line_read texts s) run
  bytes = rw (← is) a.bytes

  -- the next answer has room, or those that wait were written
  pub next-waits : (x : Bool) → x ≡ ltb (to + answer_bytes) (length last) → x ≡ true → length last ≡ out_bytes → Ends run s waiting texts u before last (record { line = None; waiting = to })
  next-waits x e k q = record { ready = record { valid = a.valid; room = omega (arith, ltb-true (to + answer_bytes) (length last) (sym e ∙ k)) }; table = left; bytes = bytes; answer = both.run; waits = λ z. place; line = λ x. refl }

  pub next-written : Ends run s waiting texts u before last (record { line = None; waiting = 0 })
  next-written = record { ready = record { valid = a.valid; room = omega arith }; table = left; bytes = bytes; answer = both.run; waits = λ z. absurd (z refl); line = λ x. refl }

-- a new table that was made
pub made-valid : (before after : List ℕ) (r : Result ⊤ Refusal) → IsNew before after r → r ≡ Ok tt → Valid after
made-valid before after r h e = h.valid e

-- a session on it, and a run that was too short
module _ (before table : List ℕ) (r : Result ⊤ Refusal) (new : IsNew before table r) where
  pub replayed-ready : (after : List ℕ) → r ≡ Ok tt → Valid after → Replayed before after
  unfolding pick
  replayed-ready after e v =
      record {
        short = λ h. (let q : new_refusal before ≡ Some 9 = rw (lt-ltb (length before) table_bytes h) refl in let s : None ≡ new_refusal before = ap new_in (sym e) ∙ new.answer in clash cc);
        valid = λ h. v;
      }

  pub replayed-refused : (n : Refusal) → r ≡ Err n → Replayed before table
  unfolding pick
  replayed-refused n e =
      record {
        short = λ h. new.bytes ∙ rw (lt-ltb (length before) table_bytes h) refl;
        valid = λ h. (let q : new_refusal before ≡ None = rw (le-ltb (length before) table_bytes h) refl in let s : Some (refusal_number n) ≡ new_refusal before = ap new_in (sym e) ∙ new.answer in let z : ◌≡◌ {A = ℕ} 0 1 = cc in absurd (omega arith));
      }
