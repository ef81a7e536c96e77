-- `sfdp::table` meets its contract. What is told lies inside the area (`found_inside`), so the part can be lent.
use Rattle.std.proofs.Common.{length, ◌+◌, ◌-◌, ◌≤◌, ◌≡◌, sym, ap, subst, take, drop, arith, rules}
use Rattle.sfdp.proofs.Laws.{found_inside}
use Rattle.sfdp.specs.Reader.{Found, table_of}
use Rattle.sfdp.proofs.table.Goals as goal

pub overflow_add-result : goal.overflow_add-result
overflow_add-result c =
    let inside : c.in-Ok.found.place + c.in-Ok.found.length ≤ length c.args.area.now = subst (λ (f : Found). f.place + f.length ≤ length c.args.area.now) (sym c.in-Ok.ensures) (found_inside _ _) in
    search rules

pub slice_bounds-result-end : goal.slice_bounds-result-end
slice_bounds-result-end c =
    let inside : c.in-Ok.found.place + c.in-Ok.found.length ≤ length c.args.area.now = subst (λ (f : Found). f.place + f.length ≤ length c.args.area.now) (sym c.in-Ok.ensures) (found_inside _ _) in
    search rules

pub returns-in-Ok : goal.returns-in-Ok
unfolding table_of
returns-in-Ok c =
    let size : c.in-Ok.found.place + c.in-Ok.found.length - c.in-Ok.found.place ≡ c.in-Ok.found.length = omega arith in
    rw size (ap (λ (f : Found). take f.length (drop f.place c.args.area.now)) c.in-Ok.ensures)

pub returns-in-Err : goal.returns-in-Err
unfolding table_of
returns-in-Err c = ap (λ (f : Found). take f.length (drop f.place c.args.area.now)) c.in-Err.ensures
