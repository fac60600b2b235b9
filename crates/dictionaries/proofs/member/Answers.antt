use Rattle.std.proofs.Common.{◌≡◌, ◌∙◌, ap, Ok, Some}
use Rattle.dictionaries.proofs.Lookup.{looks, look-end, look-malformed, last-is, is-refused}
use Rattle.dictionaries.proofs.member.Goals as goal

pub loop-m-init : goal.loop-m-init
loop-m-init c = search looks

pub returns-in_err-m : goal.returns-in_err-m
returns-in_err-m c =
    rw (is-refused c.from_residual.result c.from_residual.ensures.0) (last-is _ _ _ (look-malformed _ _ _ _ c.loop-m.invariant _ c.next_member.ensures.is _ c.in_err-m.was))

pub loop-m-preserved-then-same : goal.loop-m-preserved-then-same
loop-m-preserved-then-same c =
    let e : c.next_member.result ≡ Ok (Some c.in-Some.m) = c.in_ok-m.was ∙ ap Ok c.in-Some.is in
    search looks

pub loop-m-preserved : goal.loop-m-preserved
loop-m-preserved c =
    let e : c.next_member.result ≡ Ok (Some c.in-Some.m) = c.in_ok-m.was ∙ ap Ok c.in-Some.is in
    search looks

pub returns : goal.returns
returns c = last-is _ _ _ (look-end _ _ _ _ c.loop-m.invariant _ c.next_member.ensures.is (c.in_ok-m.was ∙ ap Ok c.in_default.is))
