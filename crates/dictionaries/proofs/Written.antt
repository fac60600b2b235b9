-- The texts that are written, by their cases. Assumes nothing.
use mathlib.Core.Path.{◌≡◌, refl}
use Prim.Native.Nat.{ℕ}
use mathlib.Core.List.{List, [], ◌∷◌, ◌++◌, map}
use Rattle.ascii.specs.Literals.{text}
use Rattle.items.specs.Items.{Item}
use Rattle.items.specs.Items.Item.{token, string}
use Rattle.dictionaries.specs.Dictionaries.{Plain}
use Rattle.dictionaries.specs.Dictionaries.Value.{one, many}
use Rattle.dictionaries.specs.Written.{each_after, joined_by, item_text, value_text, member_text, written}

module _ (c : List ℕ) where
  pub each_none : each_after c [] ≡ []
  unfolding each_after
  each_none = refl

  pub each_more : (t : List ℕ) (ts : List (List ℕ)) → each_after c (t ∷ ts) ≡ c ++ (t ++ each_after c ts)
  unfolding each_after
  each_more t ts = refl

  pub joined-none : joined_by c [] ≡ []
  unfolding joined_by
  joined-none = refl

  pub joined-first : (t : List ℕ) (ts : List (List ℕ)) → joined_by c (t ∷ ts) ≡ t ++ each_after c ts
  unfolding joined_by
  joined-first t ts = refl

  -- RFC 8941 section 4.1.2: where more remain, the separator is appended, and they
  pub joined-more : (t u : List ℕ) (us : List (List ℕ)) → joined_by c (t ∷ u ∷ us) ≡ t ++ (c ++ joined_by c (u ∷ us))
  unfolding joined_by each_after
  joined-more t u us = refl

pub token-text : (t : List ℕ) → item_text (token t) ≡ t
unfolding item_text
token-text t = refl

pub string-text : (t : List ℕ) → item_text (string t) ≡ text "\"" ++ (t ++ text "\"")
unfolding item_text
string-text t = refl

pub item-text : (x : Item) → value_text (one x) ≡ item_text x
unfolding value_text
item-text x = refl

pub list-text : (xs : List Item) → value_text (many xs) ≡ text "(" ++ (joined_by (text " ") (map item_text xs) ++ text ")")
unfolding value_text
list-text xs = refl

pub member-text : (m : Plain) → member_text m ≡ m.key ++ (text "=" ++ value_text m.value)
unfolding member_text
member-text m = refl

pub members-text : (ms : List Plain) → written ms ≡ joined_by (text ", ") (map member_text ms)
unfolding written
members-text ms = refl
