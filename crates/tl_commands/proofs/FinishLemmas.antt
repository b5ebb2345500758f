-- What a run over a journal that is opened comes to.
use Rattle.std.proofs.Common.{◌≡◌, ℕ, ◌+◌, Bool, true, false, List, Some, is_some, sym, ap, ◌∙◌, subst}
use Rattle.std.specs.declared.option.Option.{Option}
use mathlib.Core.List.{IsPrefix}
use Rattle.tl_types.specs.declared.commits.Entry.{Entry}
use Rattle.tl_types.specs.Entries.{commits_of, has_break}
use Rattle.tl_device.specs.declared.disk.Disk.{Ghosts as DiskGhosts}
use Rattle.tl_script.specs.Script.{ScriptReading}
use Rattle.tl_jobs.specs.Turns.{break_of}
use Rattle.tl_session.specs.Phases.{HaveRun}
use Rattle.tl_types.specs.Legality.{are_legal}
use Rattle.tl_journal.specs.Stands.{DiskStandsFor}
use Rattle.tl_engine.specs.Counting.{news}
use Rattle.tl_history.specs.Standing.{IsCount, ImageStandsForEntries}
use Rattle.tl_command.specs.declared.stops.Stop.{Stop}
use Rattle.tl_commands.specs.Runs.{Told}
use Rattle.tl_commands.specs.Finishing.{Finishes}
use Rattle.tl_command.specs.Outside.{Streams}
use Rattle.tl_commands.specs.Stopping.{RunStops}
use Rattle.tl_commands.proofs.StopLemmas.{stops_as}
use Rattle.tl_commands.proofs.ToldLemmas.{MakesTranscript, MakesPlay, told}

-- where bytes are told, something is
pub told_some : (o : Option (List ℕ)) (b : List ℕ) → o ≡ Some b → is_some o ≡ true
told_some o b e = ap is_some e

pub finished : {D : Type 0} (disks : DiskGhosts D) (begun disk : D) (entries named start seen last : List Entry) (first count amount : ℕ) (tells : Bool) (script : Bool → List ℕ → ScriptReading) (before after : Streams) (why : Stop) (broke : Bool)
    → entries ≡ named → first ≡ count → tells ≡ is_some (disks.reads begun) → has_break named ≡ false → MakesTranscript → MakesPlay → start ≡ named
    → IsPrefix seen last → IsPrefix named last → news named + amount ≡ news last → are_legal last ≡ true
    → (tells ≡ true → has_break last ≡ false → (gate : ℕ) × DiskStandsFor disks.reads disks.may_leave disk (commits_of last) gate)
    → (tells ≡ true → (image : List ℕ) → disks.may_leave disk image → ImageStandsForEntries last image)
    → (tells ≡ true → (image : List ℕ) × (disks.reads disk ≡ Some image) × ImageStandsForEntries last image)
    → IsCount (has_break last) count (disks.faults disk) → broke ≡ has_break last
    → RunStops (λ turns. HaveRun start turns seen amount) script why before after
    → Finishes disks begun entries first script before after why broke disk
finished disks begun disk entries named start seen last first count amount tells script before after why broke same counts is unbroken transcript plays begins on opens sum legal whole leaves stands counted broke_is stops =
    record {
      last = last;
      legal = legal;
      stops = subst (λ (es : List Entry). RunStops (Told (commits_of es) (commits_of last) (break_of last)) script why before after) (sym same)
          (stops_as (λ turns. HaveRun start turns seen amount) (Told (commits_of named) (commits_of last) (break_of last)) script why before after
          (λ turns ran. told named seen last amount turns transcript plays on opens legal sum unbroken (subst (λ (es : List Entry). HaveRun es turns seen amount) begins ran)) stops);
      broke_is = broke_is;
      count = subst (λ (n : ℕ). IsCount (has_break last) n (disks.faults disk)) (sym counts) counted;
      whole = λ b e unbroken. whole (is ∙ told_some (disks.reads begun) b e) unbroken;
      leaves = λ b e. leaves (is ∙ told_some (disks.reads begun) b e);
      stands = λ b e. stands (is ∙ told_some (disks.reads begun) b e);
    }
