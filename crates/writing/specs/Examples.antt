-- Texts put into short runs, and numbers in decimal, by computation.
use Rattle.std.specs.Prelude.{◌≡◌, refl, []}
use Rattle.ascii.specs.Literals.{text}
use Rattle.ascii.specs.Decimals.{decimal_text}
use Rattle.writing.specs.Writing.{with_text, place_after}
use Rattle.writing.specs.Computing.{computing}

fits : with_text (text "......") 2 (text "abc") ≡ text "..abc."
unfolding computing
fits = refl

fits_to : place_after (text "......") 2 (text "abc") ≡ 5
unfolding computing
fits_to = refl

fills : place_after (text "......") 3 (text "abc") ≡ 6
unfolding computing
fills = refl

cut : with_text (text "......") 4 (text "abc") ≡ text "....ab"
unfolding computing
cut = refl

cut_to : place_after (text "......") 4 (text "abc") ≡ 7
unfolding computing
cut_to = refl

beyond : with_text (text "......") 9 (text "abc") ≡ text "......"
unfolding computing
beyond = refl

beyond_to : place_after (text "......") 9 [] ≡ 7
unfolding computing
beyond_to = refl

nothing : decimal_text 0 ≡ text "0"
unfolding computing
nothing = refl

ten : decimal_text 10 ≡ text "10"
unfolding computing
ten = refl

last-serial : decimal_text 4294967295 ≡ text "4294967295"
unfolding computing
last-serial = refl
