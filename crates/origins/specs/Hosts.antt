-- 01, "Origins and expressions": hosts.
use Rattle.std.specs.Prelude.{ℕ, List, Bool, not, ◌&&◌, length, eqb}
use Rattle.limits.specs.Limits.{host_bytes}
use Rattle.ascii.specs.Bytes.{within, is_label_byte}
use Rattle.ascii.specs.Texts.{every, cut_at}
use Rattle.ascii.specs.Reading.{is_empty}

abbrev pub is_dot : ℕ → Bool
is_dot b = eqb b 46

-- "labels parted by single dots": a text cut at every dot
abbrev pub labels : List ℕ → List (List ℕ)
labels h = cut_at is_dot h

-- "lower-case letters, digits and hyphens", "no label empty"
unfoldable pub is_label : List ℕ → Bool
is_label l = not (is_empty l) && every is_label_byte l

-- "A host is 1 to 253 bytes of lower-case letters, digits and hyphens in labels parted by single dots, no label empty."
unfoldable pub is_host : List ℕ → Bool
is_host h = within 1 host_bytes (length h) && every is_label (labels h)

-- the hosts of origin texts: "An origin text is `http://` or `https://`, a host, and perhaps `:` and a port"
unfoldable pub is_origin_host : List ℕ → Bool
is_origin_host h = is_host h
