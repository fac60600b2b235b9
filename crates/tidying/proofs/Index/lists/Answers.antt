-- `lists` is right: no expression before the first of the hash has the normal form.
use Rattle.std.proofs.Common.{arith, length, length-take, ◌≤◌, ◌<◌}
use Rattle.tidying.proofs.Indexing.{listed-none, listed-rest}
use Rattle.tidying.proofs.Index.lists.Goals as goal

pub slice_bounds-first_place-end : goal.slice_bounds-first_place-end
slice_bounds-first_place-end c = simp length-take (omega arith)

pub returns-then-count-j : goal.returns-then-count-j
returns-then-count-j c =
    let room : c.args.count ≤ length c.args.self.now.hashes = omega arith in
    search listed-none

pub returns : goal.returns
returns c =
    let room : c.args.count ≤ length c.args.self.now.hashes = omega arith in
    let there : c.first_place-j.result < length c.args.self.now.places = omega arith in
    search listed-rest
