use Rattle.model.proofs.KeptParts.{midway-own}
use Rattle.node.specs.View.{state_of}
use Rattle.upkeep.proofs.Leaving.{held-midway, lent_midway, scanned_going}
use Rattle.upkeep.proofs.Removal.{calm_published, silent-published}
use Rattle.upkeep.proofs.silence.drop_silent.Goals as goal

pub scan-marks-requires : goal.scan-marks-requires
scan-marks-requires c =
    let e = c.milliseconds-now.ensures.same in
    rw e (lent_midway c.args.clock c.args.s c.args.mem.now c.requires.0 c.requires.1)

pub returns-then-not-is_republishing : goal.returns-then-not-is_republishing
returns-then-not-is_republishing c =
    let e = c.milliseconds-now.ensures.same in
    calm_published c.args.clock c.args.endpoint c.args.s c.args.mem.now c.requires.0 c.scan-marks.result (scanned_going c.args.clock c.args.s c.args.mem.now c.requires.0 c.args.endpoint c.scan-marks.result (rw e at c.scan-marks.ensures)) c.is_republishing.ensures c.if-not-is_republishing.true

pub drop_peers-requires : goal.drop_peers-requires
drop_peers-requires c =
    (c.requires.0, (held-midway c.args.clock c.args.s c.args.mem.now c.requires.1, (midway-own (state_of c.args.s c.args.mem.now) c.requires.1).fine))

pub returns : goal.returns
returns c =
    let e = c.milliseconds-now.ensures.same in
    silent-published c.args.clock c.args.endpoint c.args.s c.args.mem.now c.requires.0 c.scan-marks.result (scanned_going c.args.clock c.args.s c.args.mem.now c.requires.0 c.args.endpoint c.scan-marks.result (rw e at c.scan-marks.ensures)) c.is_republishing.ensures c.if-not-is_republishing.false c.drop_peers.result _ (rw e at c.drop_peers.ensures)
