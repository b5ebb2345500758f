use Rattle.std.proofs.Common.{◌+◌, refl, arith}
use Rattle.tl_types.specs.History.{database_of}
use Rattle.tl_commands.proofs.ShipmentLemmas.{version_fits, shipped_with}
use Rattle.tl_commands.proofs.shipments.Shipment.with.Goals as goal

pub overflow_add-version : goal.overflow_add-version
overflow_add-version c =
    let few = version_fits c.requires.fits.0 c.args.commit.now c.args.self.version c.requires.fits.1.version_is c.requires.fits.2 in
    omega (arith, few)

pub returns : goal.returns
returns c = λ commits is.
    shipped_with c.args.self (record { outline = c.apply.new.self; packets = c.put_wanted.new.packets; version = c.args.self.version + 1; from = c.args.self.from; to = c.args.self.to }) commits c.args.commit.now c.args.spelled.now is c.requires.spelled refl refl refl
    (c.in_ok-apply.ensures.ok (database_of commits) is.outline_is) c.in_ok-put_wanted.ensures
