-- What is carried out, by its cases: the table with a decision or a Peer TLV, the peers with one more and the last contact. Assumes nothing.
use mathlib.Core.Path.{◌≡◌, refl, sym, ap, ◌∙◌, subst}
use mathlib.Core.Bool.{Bool, true, false}
use mathlib.Core.List.{List}
use Prim.Native.Nat.{ℕ}
use Rattle.base.specs.Lists.{join_all}
use Rattle.base.specs.Memory.{spliced}
use Rattle.base.proofs.Tests.{no_way, by_test, or_left, or_right}
use Rattle.wire.specs.Row.{is_row, tlvs}
use Rattle.wire.specs.Order.{place}
use Rattle.wire.proofs.Good.{good-row}
use Rattle.model.specs.Figures.{data_limit}
use Rattle.model.specs.Sequence.{advance}
use Rattle.model.specs.Table.{entry_of, anew}
use Rattle.model.specs.State.{Peer as ModelPeer, peer_tlv, with_tlv}
use Rattle.model.specs.Invariant.{EntryFits}
use Rattle.std.specs.Prelude.{Option, Some, None}
use Rattle.table.specs.declared.Table.{Table}
use Rattle.table.specs.declared.Entry.{Entry as Meta}
use Rattle.table.specs.View.{data_of, meta_at, Read, Stands, Stored}
use Rattle.table.proofs.Tables.{view-each}
use Rattle.decide.specs.declared.Decision.{Decision}
use Rattle.decide.specs.declared.Decision.TheVariants.{Ignored, Ask, TakeNumber, TakeAll, Dropped}
use Rattle.reply.specs.declared.Context.{Context}
use Rattle.reply.specs.declared.Sender.{Sender}
use Rattle.reply.specs.declared.Progress.{Progress}
use Rattle.exchange.specs.declared.Act.{Act}
use Rattle.exchange.specs.declared.Act.TheVariants.{TellNetwork, TellNode, AskNetwork, Greet, Equal, Decided}
use Rattle.exchange.specs.Told.{takes, alters, TakenBy, TableAfter, Notes, Answered, Joinable, Links, greets, touching, meets, greeted_in, touched_in}

-- ---- a Peer TLV among our data

module _ {c : Context} {t : Table} {m : List ℕ} (k : Joinable c t m) {i : ℕ} (s : Stands t c.own i) where
  pub joined-row : is_row (data_of m (meta_at t i)) ≡ true
  joined-row = good-row data_limit (data_of m (meta_at t i)) (view-each t k.kept.arranged (EntryFits c.clock) m i k.fits.entries s.at).fine

  pub linked_as : (f : Sender) (q : ℕ) (tlv d : List ℕ) → d ≡ data_of m (meta_at t i) → spliced d q tlv ≡ join_all (place tlv (tlvs d))
      → (e : Meta) → Read t i e → (seq : ℕ) → seq ≡ advance e.seq 1 → tlv ≡ peer_tlv (record { node = f.node; theirs = f.endpoint; ours = c.endpoint; contact = 0 })
      → {t' : Table} {m' : List ℕ} → Stored (entry_of c.own seq (spliced (data_of m (meta_at t i)) q tlv) (anew c.clock)) t m i t' m' → Links c f t m t' m'
  unfolding with_tlv
  linked_as f q tlv d z w e o seq es et {t'} {m'} g =
      let n : seq ≡ advance (meta_at t i).seq 1 = es ∙ ap (λ (r : Meta). advance r.seq 1) o.same in
      let y : spliced (data_of m (meta_at t i)) q tlv ≡ with_tlv tlv (data_of m (meta_at t i)) = ap (λ (x : List ℕ). spliced x q tlv) (sym z) ∙ w ∙ ap (with_tlv tlv) z in
      let a : spliced (data_of m (meta_at t i)) q tlv ≡ with_tlv (peer_tlv (record { node = f.node; theirs = f.endpoint; ours = c.endpoint; contact = 0 })) (data_of m (meta_at t i)) =
      y ∙ ap (λ (x : List ℕ). with_tlv x (data_of m (meta_at t i))) et in
      record {
        place = i;
        stands = s;
        stored = subst (λ (x : ℕ). Stored (entry_of c.own x (with_tlv (peer_tlv (record { node = f.node; theirs = f.endpoint; ours = c.endpoint; contact = 0 })) (data_of m (meta_at t i))) (anew c.clock)) t m i t' m') n
            (subst (λ (x : List ℕ). Stored (entry_of c.own seq x (anew c.clock)) t m i t' m') a g);
      }

-- ---- nothing to carry out

untaken : (v : List ℕ) (d : Decision) (t : Table) (m : List ℕ) → takes d ≡ false → TakenBy v d t m t m
untaken v Ignored t m e = (refl, refl)
untaken v (Ask node) t m e = (refl, refl)
untaken v (TakeNumber place version) t m e = no_way true refl e
untaken v (TakeAll place version) t m e = no_way true refl e
untaken v Dropped t m e = (refl, refl)

unaltered_by : (c : Context) (v : List ℕ) (x : Act) (t : Table) (m : List ℕ) → alters x ≡ false → TableAfter c v x t m t m
unaltered_by c v TellNetwork t m e = (refl, refl)
unaltered_by c v (TellNode place) t m e = (refl, refl)
unaltered_by c v AskNetwork t m e = (refl, refl)
unaltered_by c v (Greet f) t m e = no_way true refl e
unaltered_by c v Equal t m e = (refl, refl)
unaltered_by c v (Decided d) t m e = untaken v d t m e

ungreeted : (c : Context) (x : Act) (ps : List ModelPeer) → greets x ≡ false → greeted_in c x ps ≡ ps
ungreeted c TellNetwork ps e = refl
ungreeted c (TellNode place) ps e = refl
ungreeted c AskNetwork ps e = refl
ungreeted c (Greet f) ps e = no_way true refl e
ungreeted c Equal ps e = refl
ungreeted c (Decided d) ps e = refl

untouched : (c : Context) (f : Option Sender) (x : Act) (ps : List ModelPeer) → touching c.unicast f x ≡ false → touched_in c f x ps ≡ ps
untouched c None x ps e = refl
untouched c (Some f) x ps e = rw e

module _ (c : Context) (x : Act) (b : Bool) where
  pub unaltered : b ≡ alters x → b ≡ false → (v : List ℕ) (t : Table) (m : List ℕ) → TableAfter c v x t m t m
  unaltered e n v t m = unaltered_by c v x t m (sym e ∙ n)

  pub unmet : (f : Option Sender) → b ≡ meets c.unicast f x → b ≡ false → (ps : List ModelPeer) → ps ≡ touched_in c f x (greeted_in c x ps)
  unmet f e n ps =
      sym (ap (touched_in c f x) (ungreeted c x ps (or_left (greets x) (touching c.unicast f x) (sym e ∙ n)))
      ∙ untouched c f x ps (or_right (greets x) (touching c.unicast f x) (sym e ∙ n)))

-- the sender is as it was noted
notes_sender : (c : Context) (x : Decision) (d : Progress) (r : List ℕ) (u : Progress) (r' : List ℕ) → Notes c x d r u r' → u.sender ≡ d.sender
notes_sender c Ignored d r u r' k = ap (λ (z : Progress). z.sender) k.0
notes_sender c (Ask node) d r u r' k = k.sender
notes_sender c (TakeNumber place version) d r u r' k = ap (λ (z : Progress). z.sender) k.0
notes_sender c (TakeAll place version) d r u r' k = ap (λ (z : Progress). z.sender) k.0
notes_sender c Dropped d r u r' k = ap (λ (z : Progress). z.sender) k.0

pub answered-sender : (c : Context) (x : Act) (t : Table) (d : Progress) (m r : List ℕ) (u : Progress) (r' : List ℕ) → Answered c x t d m r u r' → u.sender ≡ d.sender
answered-sender c TellNetwork t d m r u r' k = k.sender
answered-sender c (TellNode place) t d m r u r' k = k.sender
answered-sender c AskNetwork t d m r u r' k = k.sender
answered-sender c (Greet f) t d m r u r' k = ap (λ (z : Progress). z.sender) k.0
answered-sender c Equal t d m r u r' k =
    by_test c.unicast (λ e. ap (λ (z : Progress). z.sender) (k.0.unicast e)) (λ e. ap (λ (z : Progress). z.sender) (k.0.multicast e).1.1)
answered-sender c (Decided x) t d m r u r' k = notes_sender c x d r u r' k
