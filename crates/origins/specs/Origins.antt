-- 01, "Origins and expressions": origins and origin texts.
use Rattle.std.specs.Prelude.{ℕ, List, Bool, not, length, take, drop, eqb}
use Rattle.std.specs.Prelude.{Option, Some, None}
use Rattle.ascii.specs.Bytes.{pick}
use Rattle.ascii.specs.Literals.{text}
use Rattle.ascii.specs.Texts.{same_bytes}
use Rattle.ascii.specs.Reading.{is_empty, run_of, past}
use Rattle.origins.specs.Hosts.{is_origin_host}
use Rattle.origins.specs.Ports.{origin_port}
use Rattle.origins.specs.declared.Scheme.{Scheme}
use Rattle.origins.specs.declared.Scheme.TheVariants.{Http, Https}

-- a tuple origin: scheme, host and port, the default port filled in
pub record TupleOrigin : Type 0 where
  pub scheme : Scheme
  pub host : List ℕ
  pub port : ℕ

-- an origin that is asked about: a document's, which is a tuple or opaque and then named by a number, or a fresh opaque one
pub data Origin : Type 0 where
  tuple : TupleOrigin → Origin
  opaque : ℕ → Origin
  fresh : Origin

abbrev pub scheme_text : Scheme → List ℕ
scheme_text Http = text "http:"
scheme_text Https = text "https:"

abbrev pub scheme_slashes : Scheme → List ℕ
scheme_slashes Http = text "http://"
scheme_slashes Https = text "https://"

-- what stands past the scheme and `://`
abbrev pub past_scheme : Scheme → List ℕ → List ℕ
past_scheme k s = drop (length (scheme_slashes k)) s

abbrev pub null_text : List ℕ
null_text = text "null"

-- what an origin text says
pub data OriginSaid : Type 0 where
  says_empty : OriginSaid
  says_null : OriginSaid
  says_tuple : TupleOrigin → OriginSaid
  no_origin : OriginSaid

unfoldable pub starts_with : List ℕ → List ℕ → Bool
starts_with t s = same_bytes (take (length t) s) t

abbrev pub not_colon : ℕ → Bool
not_colon b = not (eqb b 58)

unfoldable pub with_port : Scheme → List ℕ → Option ℕ → OriginSaid
with_port k h (Some n) = says_tuple (record { scheme = k; host = h; port = n })
with_port k h None = no_origin

-- past the scheme: "a host, and perhaps `:` and a port"
unfoldable pub tuple_of : Scheme → List ℕ → OriginSaid
tuple_of k l = pick (is_origin_host (run_of not_colon l)) (with_port k (run_of not_colon l) (origin_port k (past not_colon l))) no_origin

-- a text that is neither empty nor `null`, by its scheme
abbrev pub by_schemes : List ℕ → OriginSaid
by_schemes s =
    pick (starts_with (scheme_slashes Http) s) (tuple_of Http (past_scheme Http s))
    (pick (starts_with (scheme_slashes Https) s) (tuple_of Https (past_scheme Https s)) no_origin)

-- "An origin text is `http://` or `https://`, a host, and perhaps `:` and a port; or `null`; or empty."
unfoldable pub origin_of : List ℕ → OriginSaid
origin_of s = pick (is_empty s) says_empty (pick (same_bytes s null_text) says_null (by_schemes s))
