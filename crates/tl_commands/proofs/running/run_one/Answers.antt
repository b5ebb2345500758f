use Rattle.std.proofs.Common.{rules, refl, map, ◌∙◌}
use Rattle.tl_jobs.specs.Jobs.{job_of}
use Rattle.tl_command.specs.Jobs.{asked}
use Rattle.tl_commands.proofs.RunningLemmas.{nothing_run, same_sessions, some_run, all_unwritten, phase_written}
use Rattle.tl_commands.proofs.running.run_one.Goals as goal

pub returns-in_default-clause-ran : goal.returns-in_default-clause-ran
returns-in_default-clause-ran g c = nothing_run (map asked c.args.phase.now.jobs.items) c.args.running.now.shared (g.K.Sink.written c.args.sink.now) (g.K.Sink.faults c.args.sink.now)

pub run_phase-requires-clause-sessions : goal.run_phase-requires-clause-sessions
run_phase-requires-clause-sessions g c κs within = same_sessions _ _ c.deref-2.result.now c.in-Ok.jobs.items c.args.phase.now.jobs.items c.deref-2.ensures.value (c.set_count.ensures.count ∙ c.session_count.ensures) (search rules) c.requires.sessions

pub returns-in_default-run_phase-clause-ran : goal.returns-in_default-run_phase-clause-ran
returns-in_default-run_phase-clause-ran g c = some_run (map asked c.args.phase.now.jobs.items) (map job_of c.deref-2.result.now) c.args.running.now.shared c.set_count.new.self c.run_phase.new.shared (g.K.Sink.written c.args.sink.now) (g.K.Sink.faults c.args.sink.now) (search rules) c.set_count.ensures.seen c.set_count.ensures.parts c.set_count.ensures.amount c.in_default-run_phase.ensures.runs

pub text_of-requires-clause-sessions : goal.text_of-requires-clause-sessions
text_of-requires-clause-sessions g c = same_sessions _ _ c.deref-3.result.now c.in-Ok.jobs.items c.args.phase.now.jobs.items c.deref-3.ensures.value (search rules) (search rules) c.requires.sessions

pub returns-in_default-text_of-clause-ran : goal.returns-in_default-text_of-clause-ran
returns-in_default-text_of-clause-ran g c = all_unwritten (map asked c.args.phase.now.jobs.items) (map job_of c.deref-2.result.now) c.in-Ok-run_phase.replies.items c.args.running.now.shared c.set_count.new.self c.run_phase.new.shared (g.K.Sink.written c.args.sink.now) (g.K.Sink.faults c.args.sink.now) (search rules) c.set_count.ensures.seen c.set_count.ensures.parts c.set_count.ensures.amount c.in-Ok-run_phase.ensures.runs

pub returns-clause-ran : goal.returns-clause-ran
returns-clause-ran g c = phase_written (g.P.Phases.coming c.args.running.now.phases).names (map asked c.args.phase.now.jobs.items) (map job_of c.deref-2.result.now) c.in-Ok-run_phase.replies.items c.in-Ok-run_phase.replies.items c.in-Ok-text_of.text.items c.deref-4.result.now c.args.running.now.shared c.set_count.new.self c.run_phase.new.shared (g.K.Sink.written c.args.sink.now) (g.K.Sink.written c.write_bytes.new.sink) (g.K.Sink.faults c.args.sink.now) (g.K.Sink.faults c.write_bytes.new.sink) c.write_bytes.result (search rules) c.set_count.ensures.seen c.set_count.ensures.parts c.set_count.ensures.amount c.in-Ok-run_phase.ensures.runs refl (search rules) c.deref-4.ensures.value c.write_bytes.ensures
