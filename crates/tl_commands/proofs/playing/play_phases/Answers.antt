use Rattle.std.proofs.Common.{Ok, subst, sym}
use Rattle.std.specs.declared.option.Option.{Option}
use Rattle.tl_script.specs.declared.phases.Phase.{Phase}
use Rattle.tl_group.specs.Keeping.{commits_in}
use Rattle.tl_command.specs.declared.stops.Stop.{Stop}
use Rattle.tl_command.specs.Coming.{AnswersComing}
use Rattle.tl_commands.specs.Playing.{PlayStops}
use Rattle.tl_commands.proofs.PlayLemmas.{all_played, keeps_itself, keeps_on, none_played, phase_played, phase_stopped, stop_played}
use Rattle.tl_commands.proofs.playing.play_phases.Goals as goal

pub phases-init : goal.phases-init
phases-init g c =
    let source = g.S.Source in
    let first = g.P.Phases.coming c.args.phases.now in
    record {
      played = λ plan watches. none_played c.args.means.now.stops_at_refusal plan first (commits_in c.args.playing.group) c.args.playing.watching (source.left c.args.source.now) (source.faults c.args.source.now) c.args.playing.replies.text.items c.args.playing.replies.count c.requires.fresh watches c.requires.silent c.requires.uncounted;
      keeps = keeps_itself g.D.Disk c.args.playing.group;
    }

pub play_phase-requires-clause-watched : goal.play_phase-requires-clause-watched
play_phase-requires-clause-watched g c = λ lives within. (c.requires.watched.0, (c.phases.invariant.played c.requires.watched.0 c.requires.watched.1).watches)

pub phases-preserved : goal.phases-preserved
phases-preserved g c =
    let source = g.S.Source in
    let coming = g.P.Phases.coming in
    let old = coming c.phases.phases in
    let new = coming c.next-brought.new.self in
    let mid = c.phases.playing in
    let done = c.in-Ok.done in
    let answers = subst (λ (o : Option Phase). AnswersComing old (source.left c.phases.source) (Ok o) new (source.left c.next-brought.new.source)) c.in-Ok-Some.field-0-is c.in-Ok-Some.ensures.answers in
    record {
      played = λ plan watches.
          let so_far = c.phases.invariant.played plan watches in
          phase_played c.args.means.now.stops_at_refusal plan (coming c.args.phases.now) (commits_in c.args.playing.group) (source.left c.args.source.now) (source.faults c.args.source.now) old new (commits_in mid.group) (commits_in done.group) mid.replies.text.items done.replies.text.items mid.replies.count done.replies.count mid.watching done.watching (source.left c.phases.source) (source.left c.next-brought.new.source) (source.faults c.phases.source) (source.faults c.next-brought.new.source) c.in-Ok-Some.phase answers c.in-Ok-Some.ensures.sure (c.in-Ok.ensures.ok plan so_far.watches) so_far;
      keeps = keeps_on g.D.Disk c.args.playing.group mid.group done.group c.phases.invariant.keeps c.in-Ok.ensures.keeps;
    }

pub returns-in-Err-play_phase-clause-stops : goal.returns-in-Err-play_phase-clause-stops
returns-in-Err-play_phase-clause-stops g c = λ plan watches.
    let source = g.S.Source in
    let coming = g.P.Phases.coming in
    let old = coming c.phases.phases in
    let new = coming c.next-brought.new.self in
    let mid = c.phases.playing in
    let answers = subst (λ (o : Option Phase). AnswersComing old (source.left c.phases.source) (Ok o) new (source.left c.next-brought.new.source)) c.in-Ok-Some.field-0-is c.in-Ok-Some.ensures.answers in
    let so_far = c.phases.invariant.played plan watches in
    phase_stopped c.args.means.now.stops_at_refusal plan (coming c.args.phases.now) (commits_in c.args.playing.group) (source.left c.args.source.now) (source.faults c.args.source.now) old new (commits_in mid.group) mid.replies.text.items mid.replies.count mid.watching (source.left c.phases.source) (source.left c.next-brought.new.source) (source.faults c.phases.source) (source.faults c.next-brought.new.source) c.in-Ok-Some.phase c.in-Err-play_phase.stopped.cause answers c.in-Ok-Some.ensures.sure (c.in-Err-play_phase.ensures.stops plan so_far.watches) so_far

pub returns-in-Ok-None-clause-plays : goal.returns-in-Ok-None-clause-plays
returns-in-Ok-None-clause-plays g c = λ plan watches.
    let source = g.S.Source in
    let coming = g.P.Phases.coming in
    let old = coming c.phases.phases in
    let new = coming c.next-brought.new.self in
    let now = c.phases.playing in
    let answers = subst (λ (o : Option Phase). AnswersComing old (source.left c.phases.source) (Ok o) new (source.left c.next-brought.new.source)) c.in-Ok-None.field-0-is c.in-Ok-None.ensures.answers in
    all_played c.args.means.now.stops_at_refusal plan (coming c.args.phases.now) (commits_in c.args.playing.group) (source.left c.args.source.now) (source.faults c.args.source.now) old new (commits_in now.group) now.replies.text.items now.replies.count now.watching (source.left c.phases.source) (source.left c.next-brought.new.source) (source.faults c.phases.source) answers (c.phases.invariant.played plan watches)

pub returns-in-Err-clause-stops : goal.returns-in-Err-clause-stops
returns-in-Err-clause-stops g c = λ plan watches.
    let source = g.S.Source in
    let coming = g.P.Phases.coming in
    let first = coming c.args.phases.now in
    let stops = c.args.means.now.stops_at_refusal in
    let opening = commits_in c.args.playing.group in
    let left = source.left c.args.source.now in
    let end = source.left c.next-brought.new.source in
    let count = source.faults c.args.source.now in
    let last = source.faults c.next-brought.new.source in
    let now = c.phases.playing in
    subst (λ (s : Stop). PlayStops stops first.reads opening s left end count last) (sym c.stop_for.ensures)
    (stop_played stops plan first opening left count (coming c.phases.phases) (coming c.next-brought.new.self) (commits_in now.group) now.replies.text.items now.replies.count now.watching (source.left c.phases.source) end (source.faults c.phases.source) last c.in-Err.error c.in-Err.ensures.answers c.in-Err.ensures.faults (c.phases.invariant.played plan watches))
