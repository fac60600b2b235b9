-- What the crates above use of items, here and in its parts: Bytes (how many bytes an item takes) and ReadBack (a key, a token, a string that are
-- written are read back); dictionaries, the rest of RFC 8941's grammar, uses Ranges and Suffixes too. Assumes nothing.
use mathlib.Core.Path.{◌≡◌, refl}
use Prim.Native.Nat.{ℕ}
use mathlib.Core.List.{List, [], ◌∷◌}
use mathlib.Core.Bool.{Bool, true, false}
use Rattle.ascii.specs.Bytes.{pick, is_key_start, is_key_byte}
use Rattle.ascii.specs.Texts.{same_by, same_bytes, part_in}
use Rattle.ascii.specs.Reading.{head_of, head_is, run_of, past}
use Rattle.ascii.specs.Reading.Parsed.{parsed, malformed}
use Rattle.ascii.proofs.Clash.{clash}
use Rattle.ascii.proofs.Reading.{key-starts}
use Rattle.items.specs.Items.{key_of}
use Rattle.items.specs.Items.Item.{token, string, other}
use Rattle.items.specs.Found.{item_by, item_in}
use Rattle.items.specs.declared.ItemKind.TheVariants as kind
use Rattle.items.specs.declared.ItemRange.{ItemRange}

-- the item that a range says, by its kind
module _ (s : List ℕ) (p : ItemRange) where
  pub token-in : p.kind ≡ kind.Token → item_in s p ≡ token (part_in s p.text)
  unfolding item_in item_by
  token-in e = rw e

  pub string-in : p.kind ≡ kind.String → item_in s p ≡ string (part_in s p.text)
  unfolding item_in item_by
  string-in e = rw e

  pub other-in : p.kind ≡ kind.Other → item_in s p ≡ other
  unfolding item_in item_by
  other-in e = rw e

-- a key is not empty
pub key-some : (l k m : List ℕ) → key_of l ≡ parsed k m → same_bytes k [] ≡ false
unfolding key_of head_is
key-some [] k m e = clash (unfold head_of pick in cc)
key-some (x ∷ xs) k m e = go (is_key_start x) refl (unfold head_of in e)
  where
    go : (b : Bool) → is_key_start x ≡ b → pick b (parsed (run_of is_key_byte (x ∷ xs)) (past is_key_byte (x ∷ xs))) malformed ≡ parsed k m → same_bytes k [] ≡ false
    go true t f =
        let u : run_of is_key_byte (x ∷ xs) ≡ k = unfold pick in cc in
        let v : run_of is_key_byte (x ∷ xs) ≡ x ∷ run_of is_key_byte xs = unfold run_of pick in (rw (key-starts x t) refl) in
        rw (← u, v) (unfold same_by in refl)
    go false t f = clash (unfold pick in cc)
