-- What a datagram that is not refused leaves. Assumes nothing.
use Rattle.std.specs.Prelude.{◌≡◌, None, Bool, List, ℕ, ◌≤◌, length, take, drop}
use Rattle.model.specs.Figures.{most_bytes, table_bytes}
use Rattle.wire.specs.Row.{tlvs}
use Rattle.model.specs.Table.{Entry}
use Rattle.model.specs.State.{State as ModelState}
use Rattle.model.specs.Handle.{all_tlvs, each_table}
use Rattle.model.specs.Receive.{Call, context_of as callContext, start_of, answered, handled}
use Rattle.table.specs.View.{Wrote}
use Rattle.node.specs.declared.State.{State}
use Rattle.node.specs.declared.Endpoint.{Endpoint}
use Rattle.node.specs.View.{state_of, Rep}
use Rattle.reply.specs.declared.Context.{Context}
use Rattle.reply.specs.declared.Progress.{Progress}
use Rattle.reply.specs.View.{context_of, Work, work_of, Sound}
use Rattle.node.specs.declared.answers.Answer.{Answer}

-- a datagram call of the model, with the lengths of the lent table memory and room
abbrev pub call_of : List ℕ → ℕ → ℕ → Bool → List ℕ → ℕ → ℕ → Call
call_of datagram clock endpoint unicast randoms table room =
    record { clock = clock; endpoint = endpoint; unicast = unicast; datagram = datagram; randoms = randoms; table = table; room = room }

-- no sender, nothing written, marks and digest not worked out
abbrev pub at_start : Endpoint → Progress
at_start local =
    record { local = local; sender = None; used = 0; omitted = 0; dropped = 0; reached = None }

-- the TLVs ts one after the other: the model's work; every byte that they do not write as it was, the data of each table that they leave laid in the memory
pub record Ran (c : Context) (ts : List (List ℕ)) (w : Work) (m r : List ℕ) (v : Work) (m' r' : List ℕ) : Type 0 where
  pub is : work_of v m' r' ≡ all_tlvs (context_of c) ts (work_of w m r)
  pub sound : Sound c.clock v m' r'
  pub wrote : Wrote w.state.table m (each_table (context_of c) ts (work_of w m r)) v.state.table m'
  pub size : length m' ≡ length m
  pub beyond : drop table_bytes m' ≡ drop table_bytes m
  pub room : length r' ≡ length r
  pub rest : drop v.used r' ≡ drop v.used r

-- the entries of the tables that a datagram passes through
abbrev pub tables_of : ModelState → Call → List Entry
tables_of s c = each_table (callContext s c) (tlvs c.datagram) (start_of s)

-- a datagram that is not refused: the model's answer, and every byte that is not the answer's as it was
pub record Handled (s : State) (m r datagram : List ℕ) (clock endpoint : ℕ) (unicast : Bool) (randoms : List ℕ) (o : Answer) (m' r' : List ℕ) : Type 0 where
  pub rep : Rep o.state m'
  pub accepted : o.number ≡ 0
  pub is : record { number = o.number; state = state_of o.state m'; bytes = take o.length r'; omitted = o.omitted; dropped = o.dropped }
      ≡ answered (call_of datagram clock endpoint unicast randoms (length m) (length r)) (handled (state_of s m) (call_of datagram clock endpoint unicast randoms (length m) (length r)))
  pub wrote : Wrote s.table m (tables_of (state_of s m) (call_of datagram clock endpoint unicast randoms (length m) (length r))) o.state.table m'
  pub used : o.length ≤ most_bytes
  pub size : length m' ≡ length m
  pub beyond : drop table_bytes m' ≡ drop table_bytes m
  pub room : length r' ≡ length r
  pub rest : drop o.length r' ≡ drop o.length r
