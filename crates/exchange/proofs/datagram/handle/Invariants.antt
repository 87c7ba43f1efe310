-- The loop's invariant: what is left, handled from here, gives the whole answer.
use mathlib.Core.Path.{◌≡◌}
use Rattle.std.specs.Prelude.{IfSome}
use Rattle.base.specs.Lists.{any}
use Rattle.wire.specs.Row.{tlvs}
use Rattle.model.specs.Receive.{about_other}
use Rattle.reply.specs.declared.Context.{Context}
use Rattle.reply.specs.View.{gather}
use Rattle.exchange.proofs.Tlvs.{Through}
use Rattle.exchange.proofs.Datagrams.{call_in}
use Rattle.exchange.proofs.datagram.handle.Given as goal

abbrev pub invariant-loop-h : goal.invariant-loop-h
invariant-loop-h l =
    let c : Context = call_in l.s l.datagram l.now l.number l.unicast l.randoms in
    record {
      row : l.h-iterator.row.now ≡ l.datagram;
      through : Through c l.datagram (gather c l.s l.initial.t l.initial.p l.initial.d) l.initial.mem l.initial.room l.h-iterator.at (gather c l.s l.t l.p l.d) l.mem l.room;
      others : IfSome l.others (λ b. b ≡ any (about_other l.s.own) (tlvs l.datagram));
    }
