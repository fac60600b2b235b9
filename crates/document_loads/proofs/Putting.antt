-- What the functions that write a slot leave, in the terms of the code. Assumes nothing.
use Rattle.std.specs.Prelude.{Result, Ok, Err}
use mathlib.Core.Path.{◌≡◌, refl, ap, sym, ◌∙◌}
use Prim.Native.Nat.{ℕ, ◌+◌, ◌*◌, ◌≤◌}
use mathlib.Core.List.{List, [], ◌∷◌, ◌++◌}
use mathlib.Core.Bool.{Bool, true, false}
use native.Mathlib.Omega.{arith}
use lib.Dec.{ltb, leb}
use lib.ListN.{length, take, drop, replicate, length-replicate, length-take, length-drop, take-append-drop}
use borrow.Author.Tests.{le-ltb, lt-ltb, le-leb, leb-true, leb-false}
use Rattle.ascii.proofs.Clash.{clash}
use Rattle.ascii.specs.Bytes.{pick}
use Rattle.writing.specs.Writing.{with_text}
use Rattle.limits.specs.Limits.{text_bytes, document_limit}
use Rattle.lent_bytes.specs.Numbers.{bytes_of, number_bytes}
use Rattle.lent_bytes.proofs.Laws.{put-nothing, put-long, put_on, put-numbers, one_number, part-here, mid-put, part-front}
use Rattle.declarations.specs.Declarations.{is_malformed}
use Rattle.settled.specs.Settled.{head_bytes}
use Rattle.settling.specs.Writing.{settled_bytes}
use Rattle.settling.specs.Promises.{IsSettled, answer_of, Answer}
use Rattle.settling.specs.declared.SettleError.{SettleError}
use Rattle.settling.specs.declared.SettleError.TheVariants as error
use Rattle.settling.specs.declared.SettledHeader.{SettledHeader}
use Rattle.decisions.specs.Masks.{mask_of}
use Rattle.decisions.specs.Policies.{question_in, enabled_mask}
use Rattle.origins.specs.Origins.Origin.{fresh}
use Rattle.document_records.specs.Slots.{slot_bytes, settled_limit, everywhere_place, enabled_place, depth_place, inherited_place, opaque_place, own_length_place, sandboxed_place, above_place, own_text_place, settled_place, above_bytes, slot_policy, GoodSlot}
use Rattle.document_loads.specs.Slots.{filled, mark_number, numbers_of, front_put, header_bytes, header_malformed, PutsHeader, with_decisions}
use Rattle.document_loads.specs.declared.NewDocument.{NewDocument}

-- ---- a text at the front of an array

pub filled-long : (n : ℕ) (t : List ℕ) → length (filled n t) ≡ n
filled-long n t = put-long (replicate n 0) 0 t ∙ length-replicate n 0

pub filled-front : (n : ℕ) (t : List ℕ) → length t ≤ n → take (length t) (filled n t) ≡ t
filled-front n t fits = part-here t (replicate n 0) 0 (omega (arith, length-replicate {A = ℕ} n 0))

pub filled_none : (n : ℕ) → replicate n 0 ≡ filled n []
filled_none n = sym (put-nothing (replicate n 0) 0)

pub above-fits : (c u : List ℕ) → GoodSlot c → u ≡ above_bytes c → 4 + length u ≤ 4 * document_limit
above-fits c u g e = let a = g.kept.long in let s = g.shallow in rw (e, length-take, length-drop) (omega arith)

pub above-is : (one two c u : List ℕ) (s : ℕ) → u ≡ above_bytes c → one ≡ with_text (replicate (4 * document_limit) 0) 0 (bytes_of s) → two ≡ with_text one 4 u → two ≡ filled (4 * document_limit) (bytes_of s ++ above_bytes c)
above-is one two c u s eu e f = f ∙ (ap (λ (l : List ℕ). with_text l 4 u) e ∙ (put_on (replicate (4 * document_limit) 0) 0 s u ∙ ap (λ (l : List ℕ). filled (4 * document_limit) (bytes_of s ++ l)) eu))

-- ---- the numbers

pub five-put : (s s1 s2 s3 s4 s5 : List ℕ) (d : NewDocument) (m : ℕ) → s5 ≡ with_text s4 sandboxed_place (bytes_of m) → s4 ≡ with_text s3 own_length_place (bytes_of d.length) → s3 ≡ with_text s2 opaque_place (bytes_of d.number)
    → s2 ≡ with_text s1 inherited_place (bytes_of d.inherited) → s1 ≡ with_text s depth_place (bytes_of d.depth) → m ≡ mark_number d.sandboxed → s5 ≡ with_text s depth_place (number_bytes (numbers_of d))
five-put s s1 s2 s3 s4 s5 d m e5 e4 e3 e2 e1 em =
    let f = mark_number d.sandboxed in
    let x5 : s5 ≡ with_text s4 sandboxed_place (number_bytes (mark_number d.sandboxed ∷ [])) = e5 ∙ ap (with_text s4 sandboxed_place) (one_number m ∙ ap (λ (x : ℕ). number_bytes (x ∷ [])) em) in
    let x4 : s5 ≡ with_text s3 own_length_place (number_bytes (d.length ∷ mark_number d.sandboxed ∷ [])) = x5 ∙ (ap (λ (l : List ℕ). with_text l sandboxed_place (number_bytes (mark_number d.sandboxed ∷ []))) e4 ∙ put-numbers s3 own_length_place d.length (f ∷ [])) in
    let x3 : s5 ≡ with_text s2 opaque_place (number_bytes (d.number ∷ d.length ∷ mark_number d.sandboxed ∷ [])) = x4 ∙ (ap (λ (l : List ℕ). with_text l own_length_place (number_bytes (d.length ∷ mark_number d.sandboxed ∷ []))) e3 ∙ put-numbers s2 opaque_place d.number (d.length ∷ f ∷ [])) in
    let x2 : s5 ≡ with_text s1 inherited_place (number_bytes (d.inherited ∷ d.number ∷ d.length ∷ mark_number d.sandboxed ∷ [])) = x3 ∙ (ap (λ (l : List ℕ). with_text l opaque_place (number_bytes (d.number ∷ d.length ∷ mark_number d.sandboxed ∷ []))) e2 ∙ put-numbers s1 inherited_place d.inherited (d.number ∷ d.length ∷ f ∷ [])) in
    x2 ∙ (ap (λ (l : List ℕ). with_text l inherited_place (number_bytes (d.inherited ∷ d.number ∷ d.length ∷ mark_number d.sandboxed ∷ []))) e1 ∙ put-numbers s depth_place d.depth (d.inherited ∷ d.number ∷ d.length ∷ f ∷ []))

-- ---- the front

pub fronted : (s s1 s2 s3 : List ℕ) (d : NewDocument) → s3 ≡ with_text s2 own_text_place (take d.length d.text) → s2 ≡ with_text s1 above_place (take (4 * d.depth) d.above) → s1 ≡ with_text s depth_place (number_bytes (numbers_of d)) → s3 ≡ front_put s d
fronted s s1 s2 s3 d e f g = rw (e, f, g) refl

-- ---- the header

settled-fits : (a b : Bool) → a ≡ false → b ≡ false → pick a Answer.too_long (pick b Answer.small Answer.header) ≡ Answer.header
unfolding pick
settled-fits a b e f = rw (e, f)

settled-over : (a b : Bool) → a ≡ true → pick a Answer.too_long (pick b Answer.small Answer.header) ≡ Answer.too_long
unfolding pick
settled-over a b e = rw e

header-within : (h : List ℕ) → leb (length h) text_bytes ≡ true → (header_bytes h ≡ settled_bytes h) × (header_malformed h ≡ is_malformed h)
unfolding pick
header-within h e = (rw e refl, rw e refl)

header-over : (h : List ℕ) → leb (length h) text_bytes ≡ false → (header_bytes h ≡ []) × (header_malformed h ≡ true)
unfolding pick
header-over h e = (rw e refl, rw e refl)

pub header_is : (h : List ℕ) → length h ≤ text_bytes → (header_bytes h ≡ settled_bytes h) × (header_malformed h ≡ is_malformed h)
header_is h le = header-within h (le-leb (length h) text_bytes le)

-- a part put back where it stood
put_back : (l : List ℕ) (p k : ℕ) → take p l ++ (take k (drop p l) ++ drop k (drop p l)) ≡ l
put_back l p k = ap (λ (m : List ℕ). take p l ++ m) (take-append-drop k (drop p l)) ∙ take-append-drop p l

module _ (slot h after : List ℕ) (r : Result SettledHeader SettleError) (room : slot_bytes ≤ length slot) (is : IsSettled h (take settled_limit (drop settled_place slot)) after r) where
  part-long : length (take settled_limit (drop settled_place slot)) ≡ settled_limit
  part-long = rw (length-take, length-drop) (omega arith)

  settles : leb (length h) text_bytes ≡ true → answer_of r ≡ Answer.header
  settles e =
      let n = part-long in
      let le = leb-true (length h) text_bytes e in
      let fits : head_bytes + length h ≤ length (take settled_limit (drop settled_place slot)) = omega arith in
      is.which ∙ settled-fits (ltb text_bytes (length h)) (ltb (length (take settled_limit (drop settled_place slot))) (head_bytes + length h)) (le-ltb text_bytes (length h) le) (le-ltb (length (take settled_limit (drop settled_place slot))) (head_bytes + length h) fits)

  refuses : leb (length h) text_bytes ≡ false → answer_of r ≡ Answer.too_long
  refuses e = is.which ∙ settled-over (ltb text_bytes (length h)) (ltb (length (take settled_limit (drop settled_place slot))) (head_bytes + length h)) (lt-ltb text_bytes (length h) (leb-false (length h) text_bytes e))

  pub header-put : (f : SettledHeader) → r ≡ Ok f → PutsHeader slot h (take settled_place slot ++ (after ++ drop settled_limit (drop settled_place slot))) f.malformed
  header-put f e = go (leb (length h) text_bytes) refl
    where
      go : (b : Bool) → leb (length h) text_bytes ≡ b → PutsHeader slot h (take settled_place slot ++ (after ++ drop settled_limit (drop settled_place slot))) f.malformed
      go false t = let q : Answer.header ≡ Answer.too_long = ap answer_of (sym e) ∙ refuses t in clash cc
      go true t =
          let g = is.header f e in
          let n = part-long in
          let le = leb-true (length h) text_bytes t in
          let w = header-within h t in
          let long : length after ≡ settled_limit = g.long ∙ part-long in
          let short : f.to ≤ settled_limit = omega (arith, g.upto) in
          let size : length (header_bytes h) ≡ length (settled_bytes h) = ap length w.0 in
          record {
            is =
                mid-put slot after settled_place settled_limit (omega arith) long
                ∙ (ap (with_text slot settled_place) g.is ∙ (part-front slot (settled_bytes h) settled_place settled_limit f.to (omega arith) g.to short ∙ ap (with_text slot settled_place) (sym w.0)));
            short = omega (arith, g.to);
            malformed = g.malformed ∙ sym w.1;
          }

  header-long : r ≡ Err error.TooLong → PutsHeader slot h (take settled_place slot ++ (after ++ drop settled_limit (drop settled_place slot))) true
  header-long e = go (leb (length h) text_bytes) refl
    where
      go : (b : Bool) → leb (length h) text_bytes ≡ b → PutsHeader slot h (take settled_place slot ++ (after ++ drop settled_limit (drop settled_place slot))) true
      go true t = let q : Answer.too_long ≡ Answer.header = ap answer_of (sym e) ∙ settles t in clash cc
      go false t =
          let w = header-over h t in
          let size : length (header_bytes h) ≡ 0 = ap length w.0 in
          record {
            is = ap (λ (m : List ℕ). take settled_place slot ++ (m ++ drop settled_limit (drop settled_place slot))) (is.refused error.TooLong e) ∙ (put_back slot settled_place settled_limit ∙ (sym (put-nothing slot settled_place) ∙ ap (with_text slot settled_place) (sym w.0)));
            short = omega arith;
            malformed = sym w.1;
          }

  header-small : r ≡ Err error.NoRoom → PutsHeader slot h (take settled_place slot ++ (after ++ drop settled_limit (drop settled_place slot))) true
  header-small e = go (leb (length h) text_bytes) refl
    where
      go : (b : Bool) → leb (length h) text_bytes ≡ b → PutsHeader slot h (take settled_place slot ++ (after ++ drop settled_limit (drop settled_place slot))) true
      go true t = let q : Answer.small ≡ Answer.header = ap answer_of (sym e) ∙ settles t in clash cc
      go false t = let q : Answer.small ≡ Answer.too_long = ap answer_of (sym e) ∙ refuses t in clash cc

  pub header-refused : (u : SettleError) → r ≡ Err u → PutsHeader slot h (take settled_place slot ++ (after ++ drop settled_limit (drop settled_place slot))) true
  header-refused error.TooLong e = header-long e
  header-refused error.NoRoom e = header-small e

-- ---- the decisions

pub decisions-put : (s s1 s2 : List ℕ) (e f : ℕ) → s2 ≡ with_text s1 enabled_place (bytes_of f) → s1 ≡ with_text s everywhere_place (bytes_of e) → e ≡ mask_of (λ n. question_in (slot_policy s) n fresh) → f ≡ enabled_mask (slot_policy s) → s2 ≡ with_decisions s
decisions-put s s1 s2 e f x y ee ef =
    x ∙ (ap (with_text s1 4) (one_number f) ∙ (ap (λ (l : List ℕ). with_text l 4 (number_bytes (f ∷ []))) y ∙ (put-numbers s 0 e (f ∷ []) ∙ rw (ee, ef) refl)))
