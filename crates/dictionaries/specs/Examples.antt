-- Examples of dictionaries, by computation.
use Rattle.items.specs.declared.ItemFound.{ItemFound}
use Rattle.std.specs.Prelude.{ℕ, ◌+◌, ◌≡◌, refl, List, [], ◌∷◌, map, Bool, true, false, eqb}
use Prim.Native.String.{String}
use Rattle.std.specs.Prelude.{Option, Some, None, Result, Ok}
use Rattle.ascii.specs.Literals.{text}
use Rattle.ascii.specs.Texts.{every}
use Rattle.items.specs.Items.Item.{token, string, other}
use Rattle.items.specs.declared.ItemKind.TheVariants as kind
use Rattle.dictionaries.specs.Computing.{computing}
use Rattle.dictionaries.specs.Dictionaries.{Member, dictionary}
use Rattle.dictionaries.specs.Dictionaries.Value.{one, many}
use Rattle.dictionaries.specs.Lookup.{refused, last_found, cursor_at}
use Rattle.dictionaries.specs.Members.{next_at}
use Rattle.dictionaries.specs.declared.ValueRange.TheVariants as range
use Rattle.dictionaries.specs.declared.MemberValue.{MemberValue}
use Rattle.dictionaries.specs.declared.MemberAt.{MemberAt}
use Rattle.dictionaries.specs.declared.NotADictionary.{NotADictionary}

-- a text, and how many members it has; or it is no dictionary
data Row : Type 0 where
  members : String → ℕ → Row
  no_dictionary : String → Row

counted : List Member → ℕ
counted [] = 0
counted (m ∷ ms) = 1 + counted ms

abbrev is_count : ℕ → Option (List Member) → Bool
is_count n None = false
is_count n (Some ms) = eqb (counted ms) n

abbrev is_none : Option (List Member) → Bool
is_none None = true
is_none (Some ms) = false

abbrev right : Row → Bool
right (members s n) = is_count n (dictionary (text s))
right (no_dictionary s) = is_none (dictionary (text s))

rows : List Row
rows =
    members "" 0
    ∷ members "  " 0
    ∷ members "a" 1
    ∷ members "a;x;y=1" 1
    ∷ members "a=(1 2.5 \"x\" tok :YQ==: ?1);p=x" 1
    ∷ members "a=1 ,\tb=2" 2
    ∷ members "  a  " 1
    ∷ members "a\t" 1
    ∷ members "a=-0" 1
    ∷ members "a=()" 1
    ∷ members "a=( )" 1
    ∷ members "*k=*" 1
    ∷ members "*" 1
    ∷ members "a=( b  c )" 1
    ∷ members "a=1,a=2" 2
    ∷ no_dictionary "A"
    ∷ no_dictionary "a =1"
    ∷ no_dictionary "a= 1"
    ∷ no_dictionary "a,"
    ∷ no_dictionary "a, "
    ∷ no_dictionary ",a"
    ∷ no_dictionary "a=1,,b"
    ∷ no_dictionary "a=(1"
    ∷ no_dictionary "a=(1,2)"
    ∷ no_dictionary "a=(1\t2)"
    ∷ no_dictionary "a=1 ;x"
    ∷ no_dictionary "a=1;X"
    ∷ no_dictionary "a=1;x=(2)"
    ∷ no_dictionary "a=\"\\n\""
    ∷ no_dictionary "a=\"\\x\""
    ∷ no_dictionary "a='b'"
    ∷ no_dictionary "a=1."
    ∷ no_dictionary "a=1.1234"
    ∷ no_dictionary "a=1234567890123456"
    ∷ no_dictionary "a=1234567890123.1"
    ∷ no_dictionary "a=:*:"
    ∷ no_dictionary "a=:YQ=="
    ∷ no_dictionary "a=?2"
    ∷ no_dictionary "\ta"
    ∷ no_dictionary "\t"
    ∷ no_dictionary "a b"
    ∷ []

rows_right : every right rows ≡ true
unfolding rows counted computing
rows_right = refl

-- `a="é"`: not a dictionary
bytes_over_ascii : dictionary (97 ∷ 61 ∷ 34 ∷ 195 ∷ 169 ∷ 34 ∷ []) ≡ None
unfolding computing
bytes_over_ascii = refl

-- keys, values, parameters and places
members_placed : dictionary (text "a=(b \"c\");d=x;d, e") ≡ Some (record { key = text "a"; from = 18; placed = record { value = many (token (text "b") ∷ string (text "c") ∷ []); parameters = record { key = text "d"; value = token (text "x") } ∷ record { key = text "d"; value = other } ∷ []; start = 15; params_from = 9; params_to = 3 } } ∷ record { key = text "e"; from = 1; placed = record { value = one other; parameters = []; start = 0; params_from = 0; params_to = 0 } } ∷ [])
unfolding computing
members_placed = refl

-- a text, a key, and the answer for its last member
record Lookup : Type 0 where
  header : String
  key : String
  answer : Result (Option MemberValue) NotADictionary

lookups : List Lookup
lookups =
    record { header = "a=(b \"c\");d, e, a"; key = "a"; answer = Ok (Some (record { range = range.Item (record { kind = kind.Other; text = record { from = 17; to = 17 } }); params = record { from = 17; to = 17 } })) }
    ∷ record { header = "a=(b \"c\" );d, e"; key = "a"; answer = Ok (Some (record { range = range.List 3; params = record { from = 10; to = 12 } })) }
    ∷ record { header = "x, a=tok;p"; key = "a"; answer = Ok (Some (record { range = range.Item (record { kind = kind.Token; text = record { from = 5; to = 8 } }); params = record { from = 8; to = 10 } })) }
    ∷ record { header = "a=(b \"c\" );d, e"; key = "c"; answer = Ok None }
    ∷ record { header = "a,"; key = "a"; answer = refused (Option MemberValue) }
    ∷ []

lookups_right : map (λ l. last_found (text l.header) (text l.key)) lookups ≡ map (λ l. l.answer) lookups
unfolding lookups computing
lookups_right = refl

-- the members of ` a=(b);p ,\tc="d"` by the cursor: two, and the end, also from a place outside; but `x` is no member past another
record Step : Type 0 where
  header : String
  cursor : ℕ
  answer : Result (Option MemberAt) NotADictionary

steps : List Step
steps =
    record { header = " a=(b);p ,\tc=\"d\""; cursor = 0; answer = Ok (Some (record { key = record { from = 1; to = 2 }; value = record { range = range.List 4; params = record { from = 6; to = 8 } }; next = 11 })) }
    ∷ record { header = " a=(b);p ,\tc=\"d\""; cursor = 11; answer = Ok (Some (record { key = record { from = 11; to = 12 }; value = record { range = range.Item (record { kind = kind.String; text = record { from = 14; to = 15 } }); params = record { from = 16; to = 16 } }; next = 16 })) }
    ∷ record { header = " a=(b);p ,\tc=\"d\""; cursor = 16; answer = Ok None }
    ∷ record { header = " a=(b);p ,\tc=\"d\""; cursor = 99; answer = Ok None }
    ∷ record { header = "  "; cursor = 0; answer = Ok None }
    ∷ record { header = "a=1 x"; cursor = 0; answer = refused (Option MemberAt) }
    ∷ record { header = "a=1, "; cursor = 0; answer = refused (Option MemberAt) }
    ∷ []

steps_right : map (λ p. next_at (text p.header) p.cursor) steps ≡ map (λ p. p.answer) steps
unfolding steps computing
steps_right = refl

-- the items of `a=(b "c" );d, e` by the cursor: two, and no third; nor is there one outside
record Turn : Type 0 where
  cursor : ℕ
  answer : Option ItemFound

turns : List Turn
turns =
    record { cursor = 3; answer = Some (record { range = record { kind = kind.Token; text = record { from = 3; to = 4 } }; next = 4 }) }
    ∷ record { cursor = 4; answer = Some (record { range = record { kind = kind.String; text = record { from = 6; to = 7 } }; next = 8 }) }
    ∷ record { cursor = 8; answer = None }
    ∷ record { cursor = 99; answer = None }
    ∷ []

turns_right : map (λ t. cursor_at (text "a=(b \"c\" );d, e") t.cursor) turns ≡ map (λ t. t.answer) turns
unfolding turns computing
turns_right = refl
