use Rattle.std.proofs.Common.{◌≡◌, suc, ◌<◌, ◌≤◌, refl, subst, arith}
use Rattle.amqp_data.specs.Data.{Pairs, dict, pairs_depth}
use Rattle.amqp_data.specs.View.{pairs_view}
use Rattle.amqp_value.specs.Canonical.{IsSized}
use Rattle.amqp_value.specs.Writing.{Wrote}
use Rattle.amqp_value.proofs.Written.{pairs_writable, no_map}
use Rattle.amqp_value.proofs.writing.write_map.Goals as goal

pub put_map-requires-clause-writable : goal.put_map-requires-clause-writable
put_map-requires-clause-writable c =
    let within : pairs_depth (pairs_view c.entries-entries.result.now) ≤ 31 = grind (arith, c.entries_nest_within.ensures, c.if-not-entries_nest_within.false) in
    pairs_writable c.in-Some.size (pairs_view c.entries-entries.result.now) c.in-Some.ensures within

pub returns-then-not-entries_nest_within : goal.returns-then-not-entries_nest_within
returns-then-not-entries_nest_within c =
    subst (λ (ps : Pairs). (c.args.out.now ≡ c.args.out.now) × (32 < suc (pairs_depth ps))) c.entries-entries.ensures.value (refl, grind (arith, c.entries_nest_within.ensures, c.if-not-entries_nest_within.true))

pub returns-in_default : goal.returns-in_default
returns-in_default c =
    let within : pairs_depth (pairs_view c.entries-entries.result.now) ≤ 31 = grind (arith, c.entries_nest_within.ensures, c.if-not-entries_nest_within.false) in
    subst (λ (ps : Pairs). (c.args.out.now ≡ c.args.out.now) × (suc (pairs_depth ps) ≤ 32) × (IsSized (dict ps) → ⊥)) c.entries-entries.ensures.value
    (refl, omega (arith, within), no_map (pairs_view c.entries-entries.result.now) c.in_default.ensures within)

pub returns : goal.returns
returns c =
    let within : pairs_depth (pairs_view c.entries-entries.result.now) ≤ 31 = grind (arith, c.entries_nest_within.ensures, c.if-not-entries_nest_within.false) in
    subst (λ (ps : Pairs). Wrote c.args.out.now c.put_map.new.out (dict ps) × IsSized (dict ps) × (suc (pairs_depth ps) ≤ 32)) c.entries-entries.ensures.value
    (c.in_ok-put_map.ensures, (pairs_writable c.in-Some.size (pairs_view c.entries-entries.result.now) c.in-Some.ensures within).sized, omega (arith, within))
