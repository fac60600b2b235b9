-- The settled readings of origin texts, expressions and matching, by computation.
use Rattle.std.specs.Prelude.{ℕ, ◌≡◌, refl, List, [], ◌∷◌, ◌++◌, map, Bool, true, false, not, ◌&&◌}
use Prim.Native.String.{String}
use Rattle.std.specs.Prelude.{Option, Some, None}
use Rattle.ascii.specs.Bytes.{pick}
use Rattle.ascii.specs.Literals.{text}
use Rattle.ascii.specs.Texts.{every, same_bytes}
use Rattle.origins.specs.Origins.{OriginSaid, origin_of}
use Rattle.origins.specs.Origins.Origin.{tuple}
use Rattle.origins.specs.Origins.OriginSaid.{says_empty, says_null, says_tuple, no_origin}
use Rattle.origins.specs.Expressions.{SourceExpression, expression_of}
use Rattle.origins.specs.Matching.{admits}
use Rattle.origins.specs.Computing.{computing}
use Rattle.origins.specs.NormalForms.{normal_form}

-- an expression, an origin text, and whether the one admits the other
pub data Case : Type 0 where
  admitted : String → String → Case
  refused : String → String → Case

-- whether an expression and an origin, as read, admit; none where the one is none or the other no tuple
abbrev verdict : Option SourceExpression → OriginSaid → Option Bool
verdict (Some e) (says_tuple o) = Some (admits e (tuple o))
verdict (Some e) says_empty = None
verdict (Some e) says_null = None
verdict (Some e) no_origin = None
verdict None o = None

abbrev is_yes : Option Bool → Bool
is_yes (Some b) = b
is_yes None = false

abbrev is_no : Option Bool → Bool
is_no (Some b) = not b
is_no None = false

abbrev right : Case → Bool
right (admitted e o) = is_yes (verdict (expression_of (text e)) (origin_of (text o)))
right (refused e o) = is_no (verdict (expression_of (text e)) (origin_of (text o)))

-- subdomains, beside the cases of document 01 that stand in `edge_cases`
abbrev matches : List Case
matches =
    admitted "https://*.example.com" "https://a.b.example.com"
    ∷ refused "https://*.example.com" "https://badexample.com"
    ∷ []

matches_right : every right matches ≡ true
unfolding computing
matches_right = refl

-- R-3 of 02: every combination of scheme, port kind and host kind against http origins at the ports 80, 443, 8080 and 8081, and against https origins at the same.
pub data Row : Type 0 where
  -- of a host part that admits the host `a.example` and not `example`
  of_host : String → String → String → Row
  -- of one that admits both, alike
  of_any : String → String → String → Row

-- what follows the host in those origins' texts
abbrev http_ports : List String
http_ports = "" ∷ ":443" ∷ ":8080" ∷ ":8081" ∷ []

abbrev https_ports : List String
https_ports = ":80" ∷ "" ∷ ":8080" ∷ ":8081" ∷ []

-- `y` if the expression admits the origin, `-` if not; 0 if the one is no expression or the other no tuple origin
abbrev mark : Option Bool → ℕ
mark (Some b) = pick b 121 45
mark None = 0

abbrev marks : String → String → String → List String → List ℕ
marks e scheme host ports = map (λ p. mark (verdict (expression_of (text e)) (origin_of (text scheme ++ (text host ++ text p))))) ports

abbrev marked : String → String → String → String → Bool
marked e host a b = same_bytes (marks e "http://" host http_ports) (text a) && same_bytes (marks e "https://" host https_ports) (text b)

abbrev row_right : Row → Bool
row_right (of_host e a b) = marked e "a.example" a b && marked e "example" "----" "----"
row_right (of_any e a b) = marked e "a.example" a b && marked e "example" a b

abbrev table : List Row
table =
    of_host "http://a.example" "y---" "-y--"
    ∷ of_host "http://a.example:80" "y---" "y---"
    ∷ of_host "http://a.example:443" "-y--" "-y--"
    ∷ of_host "http://a.example:8080" "--y-" "--y-"
    ∷ of_host "http://a.example:*" "yyyy" "yyyy"
    ∷ of_host "https://a.example" "----" "-y--"
    ∷ of_host "https://a.example:80" "----" "y---"
    ∷ of_host "https://a.example:443" "----" "-y--"
    ∷ of_host "https://a.example:8080" "----" "--y-"
    ∷ of_host "https://a.example:*" "----" "yyyy"
    ∷ of_host "http://*.example" "y---" "-y--"
    ∷ of_host "http://*.example:80" "y---" "y---"
    ∷ of_host "http://*.example:443" "-y--" "-y--"
    ∷ of_host "http://*.example:8080" "--y-" "--y-"
    ∷ of_host "http://*.example:*" "yyyy" "yyyy"
    ∷ of_host "https://*.example" "----" "-y--"
    ∷ of_host "https://*.example:80" "----" "y---"
    ∷ of_host "https://*.example:443" "----" "-y--"
    ∷ of_host "https://*.example:8080" "----" "--y-"
    ∷ of_host "https://*.example:*" "----" "yyyy"
    ∷ of_any "http://*" "y---" "-y--"
    ∷ of_any "http://*:80" "y---" "y---"
    ∷ of_any "http://*:443" "-y--" "-y--"
    ∷ of_any "http://*:8080" "--y-" "--y-"
    ∷ of_any "http://*:*" "yyyy" "yyyy"
    ∷ of_any "https://*" "----" "-y--"
    ∷ of_any "https://*:80" "----" "y---"
    ∷ of_any "https://*:443" "----" "-y--"
    ∷ of_any "https://*:8080" "----" "--y-"
    ∷ of_any "https://*:*" "----" "yyyy"
    ∷ of_any "http:" "yyyy" "yyyy"
    ∷ of_any "https:" "----" "yyyy"
    ∷ []

table_right : every row_right table ≡ true
unfolding computing
table_right = refl

-- texts, and whether they say a tuple origin
abbrev is_tuple : OriginSaid → Bool
is_tuple says_empty = false
is_tuple says_null = false
is_tuple (says_tuple o) = true
is_tuple no_origin = false

abbrev is_none : OriginSaid → Bool
is_none says_empty = false
is_none says_null = false
is_none (says_tuple o) = false
is_none no_origin = true

abbrev good_origins : List String
good_origins = "http://a:443" ∷ "https://a:80" ∷ "https://a:0" ∷ "http://-" ∷ "https://a.b-c.d:65535" ∷ []

abbrev bad_origins : List String
bad_origins =
    "http://a:80"
    ∷ "https://a:443"
    ∷ "https://a:00"
    ∷ "https://a:0443"
    ∷ "https://a:"
    ∷ "https://a:65536"
    ∷ "https://a:4294967296"
    ∷ "Https://a"
    ∷ "NULL"
    ∷ "https://a."
    ∷ "https://.a"
    ∷ "https://a..b"
    ∷ "https://a_b"
    ∷ "https://A"
    ∷ "https://"
    ∷ "https://a/"
    ∷ "ftp://a"
    ∷ []

origins_good : every (λ s. is_tuple (origin_of (text s))) good_origins ≡ true
unfolding computing
origins_good = refl

origins_bad : every (λ s. is_none (origin_of (text s))) bad_origins ≡ true
unfolding computing
origins_bad = refl

-- an expression and its normal form, or no expression
pub data Form : Type 0 where
  form : String → String → Form
  nothing : String → Form

abbrev same_form : List ℕ → Option SourceExpression → Bool
same_form t (Some e) = same_bytes (normal_form e) t
same_form t None = false

abbrev no_form : Option SourceExpression → Bool
no_form (Some e) = false
no_form None = true

abbrev formed : Form → Bool
formed (form s t) = same_form (text t) (expression_of (text s))
formed (nothing s) = no_form (expression_of (text s))

abbrev forms : List Form
forms =
    form "HTTPS://B.example:443" "https://b.example"
    ∷ form "http://x:0443" "http://x:443"
    ∷ form "https://*.A:*" "https://*.a:*"
    ∷ form "HTTP:" "http:"
    ∷ form "https://*:00443" "https://*"
    ∷ form "https://*.a:443" "https://*.a"
    ∷ form "https://a:80" "https://a:80"
    ∷ form "http://a" "http://a"
    ∷ form "http://A:0080" "http://a:80"
    ∷ form "http://*:80" "http://*:80"
    ∷ form "http://*.a:00080" "http://*.a:80"
    ∷ form "https://a:00000" "https://a:0"
    ∷ nothing "https://a.example:65536"
    ∷ nothing "https://a:000443"
    ∷ nothing "https://a:"
    ∷ nothing "https://a/"
    ∷ nothing "https://user@a"
    ∷ nothing "https://*.*.a"
    ∷ nothing "https://[::1]"
    ∷ nothing "a.example"
    ∷ nothing "ws://a"
    ∷ nothing "*"
    ∷ nothing ""
    ∷ []

forms_right : every formed forms ≡ true
unfolding computing
forms_right = refl
