use Rattle.std.proofs.Common.{refl, ap, length, rules}
use Rattle.tl_device.specs.Plain.{Kept}
use Rattle.tl_device.proofs.Known.{at_any_success}
use Rattle.tl_device.proofs.Undo.{write_follows, write_elapses, cut_follows, cut_elapses, sync_leaves, sync_only, sync_elapses, spends, spends_call}
use Rattle.tl_device.proofs.sure_disk.SureDiskDisk.TheImpl.Goals as goal

-- a write gives what each write gives
pub write_at-tells : goal.write_at-tells
write_at-tells c =
    let old = c.args.self.now in
    let wrote = c.ensures.wrote in
    record {
      spends = spends old c.new.self.now (length c.args.from.now) (ap (λ (k : Kept). k.spare) wrote) (ap (λ (k : Kept). k.spare_calls) wrote);
      end = search rules;
      written = search rules;
      torn = search rules;
      back = (_, refl);
      tells = λ b told. (_, refl);
      crash = write_follows old c.new.self.now c.args.at c.args.from.now c.requires.at wrote;
      time = write_elapses old c.new.self.now c.args.at c.args.from.now c.requires.at wrote;
      sure = search rules;
      rose = search rules;
    }

-- a cut gives what each cut gives
pub cut-tells : goal.cut-tells
cut-tells c =
    let old = c.args.self.now in
    let did_cut = c.ensures.did_cut in
    record {
      spends = spends_call old c.new.self.now (ap (λ (k : Kept). k.spare) did_cut) (ap (λ (k : Kept). k.spare_calls) did_cut);
      cut = search rules;
      either = search rules;
      back = (_, refl);
      tells = λ b told. (_, refl);
      crash = cut_follows old c.new.self.now c.args.len c.requires.at did_cut;
      time = cut_elapses old c.new.self.now c.args.len c.requires.at did_cut;
      sure = search rules;
      rose = search rules;
    }

-- a sync gives what each sync gives
pub sync-tells : goal.sync-tells
sync-tells c =
    let old = c.args.self.now in
    let synced = c.ensures.synced in
    record {
      spends = spends_call old c.new.self.now (ap (λ (k : Kept). k.spare) synced) (ap (λ (k : Kept). k.spare_calls) synced);
      reads = search rules;
      durable = at_any_success c.result (sync_only old c.new.self.now synced);
      crash = λ image left. sync_leaves old c.new.self.now image synced left;
      back = search rules;
      time = sync_elapses old c.new.self.now synced;
      sure = search rules;
      rose = search rules;
    }
