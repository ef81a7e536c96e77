-- `sfdp::find_table` meets its contract. 13 to 17 in that order, each early return after the ones before it passed.
use Rattle.std.proofs.Common.{◌≡◌, ◌<◌, ◌≤◌, ◌+◌, length, lt-ltb, le-ltb, eq-eqb, ne_eqb, arith}
use Rattle.sfdp.specs.Reader.{refusal, header_at, header_count, header_of, table_place, table_length}
use Rattle.sfdp.proofs.Laws.{refused_by, found-done, begins, begins_not}
use Rattle.sfdp.proofs.find_table.Goals as goal

pub returns-then-area-gt-LONGEST_AREA : goal.returns-then-area-gt-LONGEST_AREA
unfolding refusal
returns-then-area-gt-LONGEST_AREA c = refused_by _ _ 13 (λ e. omega arith) (rw (lt-ltb _ _ c.if-area-gt-LONGEST_AREA.true))

pub returns-then-not-starts_with : goal.returns-then-not-starts_with
unfolding refusal
returns-then-not-starts_with c = refused_by _ _ 14 (λ e. omega arith) (rw (le-ltb _ _ c.if-area-gt-LONGEST_AREA.false, begins_not _ c.if-not-starts_with.ensures.value))

pub returns-then-area-lt8 : goal.returns-then-area-lt8
unfolding refusal
returns-then-area-lt8 c = refused_by _ _ 15 (λ e. omega arith) (rw (le-ltb _ _ c.if-area-gt-LONGEST_AREA.false, begins _ c.if-not-starts_with.ensures.value, lt-ltb _ _ c.if-area-lt8.true))

pub returns-then-area-header_at : goal.returns-then-area-header_at
unfolding refusal
returns-then-area-header_at c =
    let past : length c.args.area.now < header_at (header_count c.args.area.now) = omega (arith, c.last_header.ensures, c.header_at.ensures.0, c.if-area-header_at.true) in
    refused_by _ _ 15 (λ e. omega arith) (rw (le-ltb _ _ c.if-area-gt-LONGEST_AREA.false, begins _ c.if-not-starts_with.ensures.value, le-ltb _ _ c.if-area-lt8.false, lt-ltb _ _ past))

pub returns-in_default : goal.returns-in_default
unfolding refusal
returns-in_default c =
    let all : header_at (header_count c.args.area.now) ≤ length c.args.area.now = omega (arith, c.last_header.ensures, c.header_at.ensures.0, c.if-area-header_at.false) in
    refused_by _ _ 16 (λ e. omega arith) (rw (le-ltb _ _ c.if-area-gt-LONGEST_AREA.false, begins _ c.if-not-starts_with.ensures.value, le-ltb _ _ c.if-area-lt8.false, le-ltb _ _ all, eq-eqb _ _ c.in_default.ensures))

pub returns-then-area-found : goal.returns-then-area-found
unfolding refusal
returns-then-area-found c =
    let all : header_at (header_count c.args.area.now) ≤ length c.args.area.now = omega (arith, c.last_header.ensures, c.header_at.ensures.0, c.if-area-header_at.false) in
    let some : header_of c.args.area.now c.args.identity ≡ header_count c.args.area.now → ⊥ = λ e. omega (arith, c.in-Some.ensures, e) in
    let outside : length c.args.area.now < table_place c.args.area.now c.in-Some.i + table_length c.args.area.now c.in-Some.i = omega (arith, c.table_at-found.ensures, c.if-area-found.true) in
    refused_by _ _ 17 (λ e. omega arith) (rw (le-ltb _ _ c.if-area-gt-LONGEST_AREA.false, begins _ c.if-not-starts_with.ensures.value, le-ltb _ _ c.if-area-lt8.false, le-ltb _ _ all, ne_eqb _ _ some, c.in-Some.ensures.0, lt-ltb _ _ outside))

pub returns : goal.returns
unfolding refusal
returns c =
    let all : header_at (header_count c.args.area.now) ≤ length c.args.area.now = omega (arith, c.last_header.ensures, c.header_at.ensures.0, c.if-area-header_at.false) in
    let some : header_of c.args.area.now c.args.identity ≡ header_count c.args.area.now → ⊥ = λ e. omega (arith, c.in-Some.ensures, e) in
    let inside : table_place c.args.area.now c.in-Some.i + table_length c.args.area.now c.in-Some.i ≤ length c.args.area.now = omega (arith, c.table_at-found.ensures, c.if-area-found.false) in
    let done : refusal c.args.area.now c.args.identity ≡ 0 = rw (le-ltb _ _ c.if-area-gt-LONGEST_AREA.false, begins _ c.if-not-starts_with.ensures.value, le-ltb _ _ c.if-area-lt8.false, le-ltb _ _ all, ne_eqb _ _ some, c.in-Some.ensures.0, le-ltb _ _ inside) in
    rw (found-done _ _ done, c.in-Some.ensures.0, c.table_at-found.ensures.0, c.table_at-found.ensures.1)
