use Rattle.std.proofs.Common.{◌<◌, ◌+◌, ◌≡◌, sym, ◌∙◌, arith}
use Rattle.sfdp.specs.Reader.{header_count, identity_at}
use Rattle.sfdp.proofs.Laws.{first_hit, first_miss, first_ends}
use Rattle.sfdp.proofs.header_of.Goals as goal

pub returns-then-byte_at-identity : goal.returns-then-byte_at-identity
returns-then-byte_at-identity c =
    let at : c.byte_at.result ≡ identity_at c.args.area.now c.loop-i.i = rw (c.byte_at.ensures, c.header_at.ensures.0) in
    let below : c.loop-i.i < header_count c.args.area.now = omega (arith, c.last_header-i-end.ensures) in
    (c.loop-i.invariant ∙ first_hit _ _ _ _ below (sym at ∙ c.if-byte_at-identity.true), below)

pub loop-i-preserved : goal.loop-i-preserved
loop-i-preserved c =
    let at : c.byte_at.result ≡ identity_at c.args.area.now c.loop-i.i = rw (c.byte_at.ensures, c.header_at.ensures.0) in
    let below : c.loop-i.i < header_count c.args.area.now = omega (arith, c.last_header-i-end.ensures) in
    c.loop-i.invariant ∙ first_miss _ _ _ _ below (λ e. c.if-byte_at-identity.false (at ∙ e))

pub returns-else-byte_at-identity : goal.returns-else-byte_at-identity
returns-else-byte_at-identity c =
    let at : c.byte_at.result ≡ identity_at c.args.area.now c.loop-i.i = rw (c.byte_at.ensures, c.header_at.ensures.0) in
    let below : c.loop-i.i < header_count c.args.area.now = omega (arith, c.last_header-i-end.ensures) in
    let all : c.loop-i.i + 1 ≡ header_count c.args.area.now = omega (arith, c.last_header-i-end.ensures) in
    c.loop-i.invariant ∙ first_miss _ _ _ _ below (λ e. c.if-byte_at-identity.false (at ∙ e)) ∙ rw all (first_ends _ _ _)
