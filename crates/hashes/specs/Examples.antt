-- Hashes and places by computation.
use Rattle.std.specs.Prelude.{◌≡◌, refl, [], ◌∷◌}
use Rattle.ascii.specs.Literals.{text}
use Rattle.origins.specs.Expressions.HostPart.{any_host, exact_host, subdomains_of}
use Rattle.origins.specs.declared.Scheme.TheVariants.{Http, Https}
use Rattle.origins.specs.declared.PortPart.TheVariants.{Default, Number}
use Rattle.hashes.specs.Hashes.{text_hash, hash_of, first_place}
use Rattle.hashes.specs.Computing.{computing}

-- 31 * 97 + 98, and from 1 on 31 * (31 + 97) + 98
two_letters : text_hash 0 (text "ab") ≡ 3105
unfolding computing
two_letters = refl

from_one : text_hash 1 (text "ab") ≡ 4066
unfolding computing
from_one = refl

-- 31 * 97 + 110 and 31 * 99 + 48: two texts of one hash
two_texts : text_hash 0 (text "an") ≡ text_hash 0 (text "c0")
unfolding computing
two_texts = refl

-- http://a, https://a, http://a:8443 and http://*.a: from 0, 31, 8443 and 42 on, 31 times that and 97
host_alone : hash_of (record { scheme = Http; host = exact_host (text "a"); port = Default }) ≡ 97
unfolding computing
host_alone = refl

scheme_counts : hash_of (record { scheme = Https; host = exact_host (text "a"); port = Default }) ≡ 1058
unfolding computing
scheme_counts = refl

-- 31 * 8443 + 97 = 261830 = 3 * 65536 + 65222
port_counts : hash_of (record { scheme = Http; host = exact_host (text "a"); port = Number 8443 }) ≡ 65222
unfolding computing
port_counts = refl

star_counts : hash_of (record { scheme = Http; host = subdomains_of (text "a"); port = Default }) ≡ 1399
unfolding computing
star_counts = refl

any-host : hash_of (record { scheme = Https; host = any_host; port = Default }) ≡ 1003
unfolding computing
any-host = refl

first_of_two : first_place 7 (5 ∷ 7 ∷ 6 ∷ 7 ∷ []) ≡ 1
unfolding computing
first_of_two = refl

none : first_place 8 (5 ∷ 7 ∷ 6 ∷ 7 ∷ []) ≡ 4
unfolding computing
none = refl
