use Rattle.std.proofs.Common.{Some, refl, ap, length}
use Rattle.tl_device.specs.Plain.{Kept}
use Rattle.tl_device.proofs.Known.{at_either, then_success, then_error, sure_call}
use Rattle.tl_device.proofs.Undo.{write_follows, write_elapses, torn_reads, torn_follows, torn_elapses, cut_follows, cut_elapses, no_cut_reads, no_cut_follows, no_cut_elapses, sync_leaves, sync_only, sync_elapses, no_sync_leaves, no_sync_back, no_sync_elapses, spends, spends_call}
use Rattle.tl_device.proofs.memory_disk.MemoryDiskDisk.TheImpl.Goals as goal

-- a write gives what each write gives
pub write_at-tells : goal.write_at-tells
write_at-tells c =
    let old = c.args.self.now.kept in
    let new = c.new.self.now.kept in
    let at = c.args.at in
    let from = c.args.from.now in
    let wrote = c.ensures.wrote in
    let tore = c.ensures.tore in
    record {
      spends = spends old new (length from)
          (at_either c.result wrote tore (ap (λ (k : Kept). k.spare)) (ap (λ (k : Kept). k.spare)))
          (at_either c.result wrote tore (ap (λ (k : Kept). k.spare_calls)) (ap (λ (k : Kept). k.spare_calls)));
      end = c.ensures.end;
      written = then_success c.result (ap (λ (k : Kept). k.bytes)) wrote;
      torn = then_error c.result (torn_reads old new at (length from)) tore;
      back = (_, refl);
      tells = λ b told. (_, refl);
      crash = at_either c.result wrote tore (write_follows old new at from c.requires.at) (torn_follows old new at (length from));
      time = at_either c.result wrote tore (write_elapses old new at from c.requires.at) (torn_elapses old new at (length from));
      sure = sure_call c.result c.args.self.now.calls c.new.self.now.calls c.ensures.fails c.ensures.calls;
      rose = c.ensures.rose;
    }

-- a cut gives what each cut gives
pub cut-tells : goal.cut-tells
cut-tells c =
    let old = c.args.self.now.kept in
    let new = c.new.self.now.kept in
    let len = c.args.len in
    let did_cut = c.ensures.did_cut in
    let no_cut = c.ensures.no_cut in
    record {
      spends = spends_call old new
          (at_either c.result did_cut no_cut (ap (λ (k : Kept). k.spare)) (ap (λ (k : Kept). k.spare)))
          (at_either c.result did_cut no_cut (ap (λ (k : Kept). k.spare_calls)) (ap (λ (k : Kept). k.spare_calls)));
      cut = then_success c.result (ap (λ (k : Kept). k.bytes)) did_cut;
      either = then_error c.result (no_cut_reads old new len) no_cut;
      back = (_, refl);
      tells = λ b told. (_, refl);
      crash = at_either c.result did_cut no_cut (cut_follows old new len c.requires.at) (no_cut_follows old new len);
      time = at_either c.result did_cut no_cut (cut_elapses old new len c.requires.at) (no_cut_elapses old new len);
      sure = sure_call c.result c.args.self.now.calls c.new.self.now.calls c.ensures.fails c.ensures.calls;
      rose = c.ensures.rose;
    }

-- a sync gives what each sync gives
pub sync-tells : goal.sync-tells
sync-tells c =
    let old = c.args.self.now.kept in
    let new = c.new.self.now.kept in
    let synced = c.ensures.synced in
    let no_sync = c.ensures.no_sync in
    record {
      spends = spends_call old new
          (at_either c.result synced no_sync (ap (λ (k : Kept). k.spare)) (ap (λ (k : Kept). k.spare)))
          (at_either c.result synced no_sync (ap (λ (k : Kept). k.spare_calls)) (ap (λ (k : Kept). k.spare_calls)));
      reads = at_either c.result synced no_sync (ap (λ (k : Kept). Some k.bytes)) (ap (λ (k : Kept). Some k.bytes));
      durable = then_success c.result (sync_only old new) synced;
      crash = λ image. at_either c.result synced no_sync (sync_leaves old new image) (no_sync_leaves old new image);
      back = then_error c.result (no_sync_back old new) no_sync;
      time = at_either c.result synced no_sync (sync_elapses old new) (no_sync_elapses old new);
      sure = sure_call c.result c.args.self.now.calls c.new.self.now.calls c.ensures.fails c.ensures.calls;
      rose = c.ensures.rose;
    }
