use mathlib.Core.Path.{◌≡◌, sym, subst}
use mathlib.Core.Bool.{true}
use mathlib.Core.List.{List}
use Prim.Native.Nat.{ℕ}
use Rattle.wire.specs.Order.{good}
use Rattle.model.specs.Figures.{data_limit}
use Rattle.start.proofs.Resuming.{unlinked-within, unlinked-published}
use Rattle.start.proofs.resume.republish.Goals as goal

pub links_in-links-requires : goal.links_in-links-requires
links_in-links-requires c = subst (λ (d : List ℕ). good data_limit d ≡ true) (sym c.own_data.ensures) c.requires.1.1

pub publish_cut-requires : goal.publish_cut-requires
publish_cut-requires c =
    (c.requires.0, (c.requires.1.0, unlinked-within c.args.clock c.args.s c.args.mem.now c.own_data.result.now c.own_data.ensures _ c.links_in-links.ensures.0))

pub returns : goal.returns
returns c =
    unlinked-published c.args.clock c.args.s c.args.mem.now c.own_data.result.now c.own_data.ensures c.links_in-links.result.start c.links_in-links.result.size c.own_seq.result c.advanced-seq.result
    c.links_in-links.ensures.1 c.own_seq.ensures c.advanced-seq.ensures c.publish_cut.result c.publish_cut.new.mem c.publish_cut.ensures
