-- Members settled one after the other, in the terms of the code. Assumes nothing.
use mathlib.Core.Path.{◌≡◌, refl, ap, ◌∙◌, sym}
use Prim.Native.Nat.{ℕ, ◌+◌, ◌*◌, ◌-◌, ◌≤◌, ◌<◌}
use mathlib.Core.List.{List, [], ◌++◌, append_assoc, append-nil}
use mathlib.Core.Bool.{Bool, true, false}
use Rattle.std.specs.Prelude.{Option, Some, None, Result, Ok, Err, IsOk}
use native.Mathlib.Omega.{arith}
use lib.ListN.{length, take, drop, replicate, length-append, length-drop, drop_of_length-le, length-replicate}
use lib.Seq.{take_all, take_at, drop_at, drop-drop, take-append-le, drop-append-le, length-take-le}
use borrow.Author.Tests.{lt-ltb, le-ltb}
use Rattle.ascii.specs.Bytes.{pick}
use Rattle.ascii.specs.Texts.{part_in}
use Rattle.ascii.proofs.Clash.{clash}
use Rattle.limits.specs.Limits.{text_bytes}
use Rattle.features.specs.Features.{feature_of, feature_count}
use Rattle.features.specs.Answers.{number_in, IsLookup}
use Rattle.dictionaries.specs.Dictionaries.{Value, Plain, members}
use Rattle.dictionaries.specs.Lookup.{into, value_in, is_some}
use Rattle.dictionaries.specs.Members.{members_from, member_in, IsNext, fold_members}
use Rattle.dictionaries.specs.declared.MemberAt.{MemberAt}
use Rattle.dictionaries.specs.declared.NotADictionary.{NotADictionary}
use Rattle.dictionaries.proofs.Laws.{fold-member, fold-members-end, fold-members-malformed, fold-members, fold-malformed, next-member-high, some-is, none_is}
use Rattle.dictionaries.proofs.Bytes.{next-bytes}
use Rattle.declarations.specs.Declarations.{value_declares, is_malformed}
use Rattle.declarations.proofs.Laws.{malformed-is}
use Rattle.settled.specs.Settled.{entry_bytes, head_bytes}
use Rattle.settling.specs.Writing.{expressions_bytes, value_sources, mark_of, entry_text, with_entry, SettledDocument, with_value, with_member, empty_document, document_of, settled_bytes}
use Rattle.settling.specs.Promises.{IsSettledIn, IsSettled}
use Rattle.settling.specs.Steps.{Wrote, ValuePut, Holds, HasRoom, Settles, Cleared, MembersSettled}
use Rattle.settling.specs.declared.Kept.{Kept}
use Rattle.settling.specs.declared.SettledHeader.{SettledHeader}
use Rattle.settling.specs.declared.SettleError.TheVariants as error
use Rattle.settling.proofs.Writes.{wrote-is, bytes-many}
use Rattle.settling.proofs.Sizes.{value-fits}
use Rattle.settling.proofs.Documents.{entry-long, settled_says}

-- an entry put into a run that begins with a head
entered : (head b t m : List ℕ) (n q : ℕ) → length head ≡ head_bytes → n < feature_count → length t ≡ entry_bytes → Wrote (head ++ b) (entry_bytes * n) t m q → m ≡ with_entry head n t ++ b
unfolding with_entry
entered head b t m n q h f g w =
    let i : entry_bytes * n + length t ≡ entry_bytes * n + entry_bytes = omega arith in
    let a : take (entry_bytes * n) (head ++ b) ≡ take (entry_bytes * n) head = take-append-le (entry_bytes * n) head b (omega arith) in
    let c : drop (entry_bytes * n + entry_bytes) (head ++ b) ≡ drop (entry_bytes * n + entry_bytes) head ++ b = drop-append-le (entry_bytes * n + entry_bytes) head b (omega arith) in
    wrote-is (head ++ b) m t (entry_bytes * n) q w
    ∙ (rw (i, a, c) (sym (append_assoc (take (entry_bytes * n) head) (t ++ drop (entry_bytes * n + entry_bytes) head) b ∙ ap (λ (z : List ℕ). take (entry_bytes * n) head ++ z) (append_assoc t (drop (entry_bytes * n + entry_bytes) head) b))))

-- a feature's value was written past the head, and then its entry
module _ (v : Value) (l : List ℕ) (w n : ℕ) (p : HasRoom v l w) (h : n < feature_count) (b1 : List ℕ) (r : Kept) (put : ValuePut v (take (length l - head_bytes) (drop head_bytes l)) w b1 r) where
  has-head : head_bytes ≤ length l
  has-head = omega (arith, p.room)

  body-all : take (length l - head_bytes) (drop head_bytes l) ≡ drop head_bytes l
  body-all = take_all (length l - head_bytes) (drop head_bytes l) (omega (arith, length-drop head_bytes l))

  body-put : ValuePut v (drop head_bytes l) w b1 r
  body-put = rw body-all at put

  body-long : length b1 ≡ length l - head_bytes
  body-long = body-put.wrote.long ∙ length-drop head_bytes l

  rest-none : drop (length l - head_bytes) (drop head_bytes l) ≡ []
  rest-none = let n : length (drop head_bytes l) ≤ length l - head_bytes = omega (arith, length-drop head_bytes l) in drop_of_length-le (drop head_bytes l) n

  put_back : take head_bytes l ++ (b1 ++ drop (length l - head_bytes) (drop head_bytes l)) ≡ take head_bytes l ++ b1
  put_back = rw (rest-none, append-nil b1) refl

  put-long : length (take head_bytes l ++ b1) ≡ length l
  put-long = omega (arith, length-append (take head_bytes l) b1, length-take-le head_bytes l has-head, body-long, has-head)

  pub feature-room : entry_bytes * n + 5 ≤ length (take head_bytes l ++ (b1 ++ drop (length l - head_bytes) (drop head_bytes l)))
  feature-room = rw put_back (omega (arith, put-long, has-head))

  pub feature-start : w ≤ 65535
  feature-start = omega (arith, p.small)

  pub feature-count : r.written.count ≤ 65535
  feature-count = omega (arith, p.small, body-put.count, bytes-many (value_sources v))

  module _ (l2 : List ℕ) (q : ℕ) (e : Wrote (take head_bytes l ++ (b1 ++ drop (length l - head_bytes) (drop head_bytes l))) (entry_bytes * n) (entry_text r.mark w r.written.count) l2 q) where
    entry-put : Wrote (take head_bytes l ++ b1) (entry_bytes * n) (entry_text r.mark w r.written.count) l2 q
    entry-put = rw put_back at e

    feature-holds : (x : SettledDocument) (base : List ℕ) → Holds x base l w → Holds (with_value x (Some n) v) base l2 r.written.to
    unfolding with_value
    feature-holds x base k =
        let t = expressions_bytes (value_sources v) in
        let u : drop head_bytes l ≡ x.body ++ drop (head_bytes + w) base = ap (drop head_bytes) k.is ∙ drop_at x.head (x.body ++ drop (head_bytes + w) base) head_bytes k.head in
        let a : take head_bytes l ≡ x.head = ap (take head_bytes) k.is ∙ take_at x.head (x.body ++ drop (head_bytes + w) base) head_bytes k.head in
        let c : take w (drop head_bytes l) ≡ x.body = ap (take w) u ∙ take_at x.body (drop (head_bytes + w) base) w k.body in
        let f : drop w (drop head_bytes l) ≡ drop (head_bytes + w) base = ap (drop w) u ∙ drop_at x.body (drop (head_bytes + w) base) w k.body in
        let o : head_bytes + w + length t ≡ head_bytes + r.written.to = omega (arith, body-put.wrote.end) in
        let g : drop (w + length t) (drop head_bytes l) ≡ drop (head_bytes + r.written.to) base =
        sym (drop-drop (length t) w (drop head_bytes l)) ∙ (ap (drop (length t)) f ∙ (drop-drop (length t) (head_bytes + w) base ∙ ap (λ (z : ℕ). drop z base) o)) in
        let b : b1 ≡ (x.body ++ t) ++ drop (head_bytes + r.written.to) base = wrote-is (drop head_bytes l) b1 t w r.written.to body-put.wrote ∙ (rw (c, g) (sym (append_assoc x.body t (drop (head_bytes + r.written.to) base)))) in
        let m : l2 ≡ with_entry x.head n (entry_text r.mark w r.written.count) ++ b1 = entered x.head b1 (entry_text r.mark w r.written.count) l2 n q k.head h refl (rw a at entry-put) in
        record {
          is = m ∙ (rw (k.body, ← body-put.mark, ← body-put.count) (ap (λ (z : List ℕ). with_entry x.head n (entry_text r.mark w r.written.count) ++ z) b));
          head = entry-long x.head n (mark_of (value_declares v)) (length x.body) (length (value_sources v)) h k.head;
          body = omega (arith, length-append x.body t, k.body, body-put.wrote.end);
          long = omega (arith, entry-put.long, put-long, k.long);
        }

    pub feature-settles : Settles (Some n) v l w l2 r.written.to
    feature-settles = record { holds = feature-holds; long = omega (arith, entry-put.long, put-long); upto = omega (arith, body-put.wrote.end) }

-- a member, by its key
pub known-below : (k : Option ℕ) (n : ℕ) → k ≡ Some n → number_in k < feature_count → n < feature_count
known-below k n e h = rw e at h

module _ (key part : List ℕ) (u : part ≡ key) (k : Option ℕ) (is : IsLookup part k) where
  pub known-settles : (n : ℕ) (v : Value) (l m : List ℕ) (w r : ℕ) → k ≡ Some n → Settles (Some n) v l w m r → Settles (feature_of key) v l w m r
  known-settles n v l m w r e h =
      let o : Some n ≡ feature_of key = sym e ∙ (is.is ∙ ap feature_of u) in
      rw o at h

  pub unknown-settles : (v : Value) (l : List ℕ) (w : ℕ) → k ≡ None → Settles (feature_of key) v l w l w
  unknown-settles v l w e =
      let o : None ≡ feature_of key = sym e ∙ (is.is ∙ ap feature_of u) in
      rw (← o) (unfold with_value in (record { holds = λ x base h. h; long = refl; upto = omega arith }))

-- a head of zeros
pub cleared : (l z : List ℕ) → head_bytes ≤ length l → z ≡ replicate (length (take head_bytes l)) 0 → Cleared l (z ++ drop head_bytes l)
cleared l z h e =
    let n : length (take head_bytes l) ≡ head_bytes = length-take-le head_bytes l h in
    let i : z ≡ replicate head_bytes 0 = rw n at e in
    record {
      is = ap (λ (y : List ℕ). y ++ drop head_bytes l) i;
      long = omega (arith, ap length i, length-append z (drop head_bytes l), length-replicate {A = ℕ} head_bytes 0, length-drop head_bytes l);
    }

-- a run whose head was cleared
module _ (l m : List ℕ) (c : Cleared l m) where
  clear-rest : (w : ℕ) → drop (head_bytes + w) m ≡ drop (head_bytes + w) l
  clear-rest w =
      let d : drop head_bytes m ≡ drop head_bytes l = ap (drop head_bytes) c.is ∙ drop_at (replicate head_bytes 0) (drop head_bytes l) head_bytes (length-replicate {A = ℕ} head_bytes 0) in
      sym (drop-drop w head_bytes m) ∙ (ap (drop w) d ∙ drop-drop w head_bytes l)

  pub clear-holds : Holds empty_document m m 0
  clear-holds = record { is = c.is ∙ ap (λ (z : List ℕ). replicate head_bytes 0 ++ z) (sym (clear-rest 0)); head = length-replicate {A = ℕ} head_bytes 0; body = refl; long = refl }

-- members so far: the run begins with their document, and the others are left
pub record Going (s base : List ℕ) (c : ℕ) (run : List ℕ) (w : ℕ) : Type 0 where
  pub document : SettledDocument
  pub holds : Holds document base run w
  pub left : fold_members with_member document (members_from s c) ≡ fold_members with_member empty_document (members s)
  pub within : c ≤ length s
  pub small : w ≤ c

pub going_start : (s l : List ℕ) → Holds empty_document l l 0 → Going s l 0 l 0
going_start s l h = record { document = empty_document; holds = h; left = refl; within = omega arith; small = omega arith }

all-folded : (d : Option (List Plain)) (x : SettledDocument) → Some x ≡ fold_members with_member empty_document d → x ≡ document_of d
unfolding document_of
all-folded (Some ms) x e = let f : Some x ≡ Some (into with_member empty_document ms) = e ∙ fold-members with_member empty_document ms in cc
all-folded None x e = let f : Some x ≡ None = e ∙ fold-malformed with_member empty_document in clash cc

none-folded : (d : Option (List Plain)) → None ≡ fold_members with_member empty_document d → is_some d ≡ false
none-folded (Some ms) e = let f : None ≡ Some (into with_member empty_document ms) = e ∙ fold-members with_member empty_document ms in clash cc
none-folded None e = none_is (List Plain)

module _ (s base : List ℕ) (c : ℕ) (run : List ℕ) (w : ℕ) (g : Going s base c run w) (r : Result (Option MemberAt) NotADictionary) (is : IsNext s c r) where
  module _ (f : MemberAt) (e : r ≡ Ok (Some f)) where
    fits : w + length (expressions_bytes (value_sources (value_in s f.value))) ≤ f.next
    fits = omega (arith, g.small, value-fits (value_in s f.value), next-bytes s c r f is e)

    next-within : f.next ≤ length s
    next-within = omega (arith, is.upto, next-member-high r f e)

    pub going-room : head_bytes + length s ≤ length base → length s ≤ text_bytes → HasRoom (value_in s f.value) run w
    going-room h k = record { room = omega (arith, fits, next-within, g.holds.long); small = omega (arith, fits, next-within) }

    pub going_on : (run' : List ℕ) (w' : ℕ) → Settles (feature_of (part_in s f.key)) (value_in s f.value) run w run' w' → Going s base f.next run' w'
    going_on run' w' u =
        record {
          document = with_member g.document (member_in s f);
          holds = u.holds g.document base g.holds;
          left = fold-member s c r is.is with_member g.document (fold_members with_member empty_document (members s)) g.left f (with_member g.document (member_in s f)) e refl;
          within = next-within;
          small = omega (arith, u.upto, fits);
        }

  pub going_end : r ≡ Ok None → MembersSettled s base run w
  going_end e =
      let d : g.document ≡ document_of (members s) = all-folded (members s) g.document (fold-members-end s c r is.is with_member g.document (fold_members with_member empty_document (members s)) g.left e) in
      record { holds = rw d at g.holds; upto = omega (arith, g.within, g.small) }

  -- the text is a dictionary, so each answer is one's
  pub going-ok : is_some (members s) ≡ true → IsOk r
  going-ok t = go r refl
    where
      go : (q : Result (Option MemberAt) NotADictionary) → r ≡ q → IsOk q
      go (Ok o) e = refl
      go (Err u) e =
          let d : is_some (members s) ≡ false = none-folded (members s) (fold-members-malformed s c r is.is with_member g.document (fold_members with_member empty_document (members s)) g.left e) in
          clash cc

-- a header's document in a run
module _ (s l m run : List ℕ) (w : ℕ) (c : Cleared l m) (h : Holds (document_of (members s)) m run w) (small : w ≤ length s) where
  holds-is : run ≡ settled_bytes s ++ drop (head_bytes + w) l
  unfolding settled_bytes
  holds-is =
      let x = document_of (members s) in
      h.is ∙ (rw (clear-rest l m c w) (sym (append_assoc x.head x.body (drop (head_bytes + w) l))))

  holds-to : head_bytes + w ≡ length (settled_bytes s)
  unfolding settled_bytes
  holds-to = let x = document_of (members s) in omega (arith, length-append x.head x.body, h.head, h.body)

  holds-settled : (b : Bool) → b ≡ is_malformed s → IsSettledIn s l run (record { to = head_bytes + w; malformed = b })
  holds-settled b e =
      let t : take (head_bytes + w) run ≡ settled_bytes s = ap (take (head_bytes + w)) holds-is ∙ take_at (settled_bytes s) (drop (head_bytes + w) l) (head_bytes + w) (sym holds-to) in
      record {
        is = holds-is;
        to = holds-to;
        says = λ y n. rw t (settled_says s y n);
        malformed = e;
        upto = omega arith;
        rest = ap (drop (head_bytes + w)) holds-is ∙ drop_at (settled_bytes s) (drop (head_bytes + w) l) (head_bytes + w) (sym holds-to);
        long = h.long ∙ c.long;
      }

pub told-members : (s : List ℕ) (b : Bool) → b ≡ is_some (members s) → b ≡ true → is_some (members s) ≡ true
told-members s b e t = sym e ∙ t

no-members : (d : Option (List Plain)) → is_some d ≡ false → document_of d ≡ empty_document
unfolding document_of
no-members (Some ms) e = let f : is_some (Some ms) ≡ true = some-is ms in clash cc
no-members None e = refl

-- the answers
module _ (s l : List ℕ) where
  pub answer-long : text_bytes < length s → IsSettled s l l (Err error.TooLong)
  unfolding pick
  answer-long h = record { which = rw (lt-ltb text_bytes (length s) h); refused = λ u e. refl; header = λ f e. clash cc }

  module _ (h : length s ≤ text_bytes) where
    pub answer-small : length l < head_bytes + length s → IsSettled s l l (Err error.NoRoom)
    unfolding pick
    answer-small g = record { which = rw (le-ltb text_bytes (length s) h, lt-ltb (length l) (head_bytes + length s) g); refused = λ u e. refl; header = λ f e. clash cc }

    module _ (g : head_bytes + length s ≤ length l) (m : List ℕ) (c : Cleared l m) (b : Bool) (told : b ≡ is_some (members s)) where
      settled-header : (run : List ℕ) (f : SettledHeader) → IsSettledIn s l run f → IsSettled s l run (Ok f)
      unfolding pick
      settled-header run f k =
          record {
            which = rw (le-ltb text_bytes (length s) h, le-ltb (length l) (head_bytes + length s) g);
            refused = λ u e. clash cc;
            header = λ f' e. let q : f ≡ f' = cc in rw q at k;
          }

      pub answer-header : b ≡ true → (run : List ℕ) (w : ℕ) → MembersSettled s m run w → IsSettled s l run (Ok (record { to = head_bytes + w; malformed = false }))
      answer-header t run w k = settled-header run (record { to = head_bytes + w; malformed = false }) (holds-settled s l m run w c k.holds k.upto false (rw t at (malformed-is s b told)))

      pub answer-malformed : b ≡ false → IsSettled s l m (Ok (record { to = head_bytes; malformed = true }))
      answer-malformed t =
          let d : document_of (members s) ≡ empty_document = no-members (members s) (sym told ∙ t) in
          settled-header m (record { to = head_bytes; malformed = true }) (holds-settled s l m m 0 c (rw (← d) at (clear-holds l m c)) (omega arith) true (rw t at (malformed-is s b told)))
