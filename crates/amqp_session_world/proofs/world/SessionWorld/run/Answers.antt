use Rattle.std.specs.Prelude.{IsErrOf}
use Rattle.std.proofs.Common.{◌≡◌, ◌∙◌, ℕ, Result, Ok, Err, sym, ap}
use Rattle.amqp_world.specs.declared.world.WorldError.{WorldError}
use Rattle.amqp_world.specs.declared.world.WorldError.TheVariants.{BadStep}
use Rattle.amqp_end.specs.amqp_calls.declared.trace.Trace.{Trace}
use Rattle.amqp_session_world.specs.Worlds.{view_of}
use Rattle.amqp_session_world.proofs.Carrying.{made_carried}
use Rattle.amqp_session_world.proofs.world.SessionWorld.run.Goals as goal

error_or : Result Trace WorldError → WorldError → WorldError
error_or (Ok trace) d = d
error_or (Err e) d = e

told : (r : Result Unit WorldError) (e : WorldError) (i : ℕ) → r ≡ Err e → IsErrOf {T = Trace} {E = WorldError} (Err e) (BadStep i) → IsErrOf r (BadStep i)
unfolding error_or
told r e i is h = is ∙ ap (λ (x : WorldError). Err x) (ap (λ (z : Result Trace WorldError). error_or z e) h)

pub returns-in-Ok-clause-carried : goal.returns-in-Ok-clause-carried
returns-in-Ok-clause-carried c = made_carried _ _ (record {
  first = view_of c.in_ok-world.world;
  starts = c.in_ok-world.ensures;
  view = view_of c.make_all.new.self;
  turns = c.in-Ok.ensures.turns;
  entries_are = ap (λ (t : Trace). t.entries.items) (sym c.into_trace.ensures);
})

pub returns-in-Ok-clause-made : goal.returns-in-Ok-clause-made
returns-in-Ok-clause-made c = record {
  first = view_of c.in_ok-world.world;
  starts = c.in_ok-world.ensures;
  view = view_of c.make_all.new.self;
  turns = c.in-Ok.ensures.turns;
  entries_are = ap (λ (t : Trace). t.entries.items) (sym c.into_trace.ensures);
}

pub returns-in-Err-clause-bad : goal.returns-in-Err-clause-bad
returns-in-Err-clause-bad c = λ i h. c.make_all.ensures.bad i (told c.make_all.result c.in-Err.error i c.in-Err.is h)
