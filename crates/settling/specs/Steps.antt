-- What the steps of settling a header promise of one another.
use Rattle.std.specs.Prelude.{ℕ, ◌+◌, ◌≤◌, ◌≡◌, List, [], ◌++◌, Bool, true, false, not, ◌&&◌, ◌||◌, length, take, drop, replicate, eqb}
use Rattle.std.specs.Prelude.{Option}
use Rattle.ascii.specs.Bytes.{pick}
use Rattle.origins.specs.Expressions.{SourceExpression}
use Rattle.dictionaries.specs.Dictionaries.{Value, members}
use Rattle.allowlists.specs.Allowlists.{Meaning, is_star, is_self, with_source, has_star, has_self, sources_of}
use Rattle.declarations.specs.Declarations.{value_declares}
use Rattle.settled.specs.Settled.{head_bytes}
use Rattle.settling.specs.Writing.{host_text, port_value, expressions_bytes, value_sources, mark_of, SettledDocument, with_value, document_of}
use Rattle.settling.specs.declared.Listed.{Listed}
use Rattle.settling.specs.declared.Kept.{Kept}

-- an expression whose numbers are bytes in the settled form
pub record Packable (e : SourceExpression) : Type 0 where
  pub host : length (host_text e.host) ≤ 255
  pub port : port_value e.port ≤ 65535

-- a text was written at a place, and the bytes before and past it stayed
pub record Wrote (before : List ℕ) (at : ℕ) (text after : List ℕ) (to : ℕ) : Type 0 where
  pub end : to ≡ at + length text
  pub front : take to after ≡ take at before ++ text
  pub back : drop to after ≡ drop to before
  pub long : length after ≡ length before

-- an item's expression was written, if it is one
pub record ItemPut (x : Meaning) (before : List ℕ) (n : Listed) (after : List ℕ) (r : Listed) : Type 0 where
  pub wrote : Wrote before n.written.to (expressions_bytes (with_source x [])) after r.written.to
  pub count : r.written.count ≡ n.written.count + length (with_source x [])
  pub all : r.all ≡ n.all || is_star x
  pub own : r.own ≡ n.own || is_self x

-- the expressions of a list were written
pub record ListPut (ms : List Meaning) (before : List ℕ) (at : ℕ) (after : List ℕ) (r : Listed) : Type 0 where
  pub wrote : Wrote before at (expressions_bytes (sources_of ms)) after r.written.to
  pub count : r.written.count ≡ length (sources_of ms)
  pub all : r.all ≡ has_star ms
  pub own : r.own ≡ has_self ms

-- the mark of a list, by whether it has `*` and `self`
abbrev pub list_mark : Bool → Bool → ℕ
list_mark true own = 1
list_mark false true = 3
list_mark false false = 2

-- the mark of a lone item, with how many expressions it is
abbrev pub lone_mark : Bool → Bool → ℕ → ℕ
lone_mark all own n = pick (not all && not own && eqb n 0) 0 (list_mark all own)

-- the expressions of a value were written, and its mark is known
pub record ValuePut (v : Value) (before : List ℕ) (at : ℕ) (after : List ℕ) (r : Kept) : Type 0 where
  pub wrote : Wrote before at (expressions_bytes (value_sources v)) after r.written.to
  pub count : r.written.count ≡ length (value_sources v)
  pub mark : r.mark ≡ mark_of (value_declares v)

-- a run begins with a document, and from there on it has the bytes of another
pub record Holds (x : SettledDocument) (base run : List ℕ) (w : ℕ) : Type 0 where
  pub is : run ≡ x.head ++ (x.body ++ drop (head_bytes + w) base)
  pub head : length x.head ≡ head_bytes
  pub body : length x.body ≡ w
  pub long : length run ≡ length base

-- there is room for a value's expressions past what was written, and their places are numbers of two bytes
pub record HasRoom (v : Value) (run : List ℕ) (w : ℕ) : Type 0 where
  pub room : head_bytes + w + length (expressions_bytes (value_sources v)) ≤ length run
  pub small : w + length (expressions_bytes (value_sources v)) ≤ 65535

-- the document that the run begins with has a value more
pub record Settles (o : Option ℕ) (v : Value) (before : List ℕ) (w : ℕ) (after : List ℕ) (r : ℕ) : Type 0 where
  pub holds : (x : SettledDocument) (base : List ℕ) → Holds x base before w → Holds (with_value x o v) base after r
  pub long : length after ≡ length before
  pub upto : r ≤ w + length (expressions_bytes (value_sources v))

-- the head was cleared, and nothing else
pub record Cleared (before after : List ℕ) : Type 0 where
  pub is : after ≡ replicate head_bytes 0 ++ drop head_bytes before
  pub long : length after ≡ length before

-- the members of a text were settled into a run whose head was clear
pub record MembersSettled (s before after : List ℕ) (r : ℕ) : Type 0 where
  pub holds : Holds (document_of (members s)) before after r
  pub upto : r ≤ length s
