-- Which peers a tick removes: those that go, and never one with interval 0. Assumes nothing.
use Rattle.std.proofs.Common.{◌≡◌, ℕ, Bool, true, false, not, ◌||◌, eqb, leb, List, [], ◌∷◌, sym, refl, eqb-true}
use borrow.Author.Tests.{eqb-false}
use Rattle.base.specs.Lists.{keep, In}
use Rattle.base.proofs.Tests.{no_way, by_test, or_left}
use Rattle.base.proofs.Lists.{in_keep}
use Rattle.model.specs.Figures.{refresh_age}
use Rattle.model.specs.Table.{age_at}
use Rattle.model.specs.State.{State, Peer, own_entry, publish_as, settle}
use Rattle.model.specs.Tick.{interval_of, goes, some_of, drop_silent, ticked, refusal_tick, tick}
use Rattle.model.specs.Theorems.{SilentPeersGo}
use Rattle.model.proofs.Cases.{gone, stay, tick-accepted, tick-refused}

-- where none goes, all stay
stay_all : (f : Peer → Bool) (ps : List Peer) → some_of (keep f ps) ≡ false → keep (λ p. not (f p)) ps ≡ ps
stay_all f [] e = refl
stay_all f (p ∷ ps) e = by_test (f p) (λ b. no_way (some_of (keep f (p ∷ ps))) (rw b) e) (λ b. rw (b, stay_all f ps (rw b at e)))

module _ (clock i : ℕ) (s : State) where
  silent-peers : (drop_silent clock i s).peers ≡ stay clock i s
  unfolding drop_silent publish_as
  silent-peers =
      by_test (some_of (gone clock i s) || leb refresh_age (age_at clock (own_entry s))) (λ e. rw e)
      (λ e. rw e (sym (stay_all (goes clock i s.table) s.peers (or_left _ _ e))))

  exactly : (randoms : List ℕ) → (ticked clock i randoms s).state.peers ≡ stay clock i s
  unfolding ticked settle
  exactly randoms = silent-peers

  stays : (p : Peer) → interval_of s.table p ≡ 0 → not (goes clock i s.table p) ≡ true
  unfolding goes
  stays p z = by_test (eqb p.ours i) (λ b. rw (b, z)) (λ b. rw b)

  never : (randoms : List ℕ) (table room : ℕ) (p : Peer) → In p s.peers → interval_of s.table p ≡ 0 → In p (tick clock i randoms table room s).state.peers
  never randoms table room p m z =
      by_test (eqb (refusal_tick clock i table room s) 0)
      (λ b. rw (tick-accepted clock i s randoms table room (eqb-true (refusal_tick clock i table room s) 0 b), exactly randoms)
      (in_keep (λ q. not (goes clock i s.table q)) p s.peers m (stays p z)))
      (λ b. rw (tick-refused clock i s randoms table room (eqb-false (refusal_tick clock i table room s) 0 b)) m)

pub silent_peers_go : SilentPeersGo
silent_peers_go = record { exactly = λ clock i randoms s. exactly clock i s randoms; never = λ clock i randoms table room s. never clock i s randoms table room }
