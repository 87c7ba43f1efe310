-- Silent peers gone, or nothing to do. Assumes nothing.
use mathlib.Core.Path.{◌≡◌, sym, ap, ◌∙◌, subst}
use mathlib.Core.Bool.{Bool, true, false, not, ◌||◌}
use mathlib.Core.List.{List, map}
use Prim.Native.Nat.{ℕ, ◌≤◌}
use lib.ListN.{length}
use lib.Dec.{leb}
use borrow.Author.Tests.{leb-false}
use Rattle.base.specs.Lists.{any, keep_by}
use Rattle.base.proofs.Tests.{or_left, or_right}
use Rattle.model.specs.Figures.{most_peers, refresh_age}
use Rattle.model.specs.Table.{age_at}
use Rattle.model.specs.State.{State as ModelState, Peer as ModelPeer, with_peers, own_entry, own_data, publish}
use Rattle.model.specs.Tick.{without_peers, drop_silent}
use Rattle.model.proofs.Cases.{stay, silent-none, silent-some}
use Rattle.node.specs.View.{state_of, Rep, Published}
use Rattle.node.specs.declared.State.{State}
use Rattle.node.proofs.Contacts.{peers-length}
use Rattle.node.proofs.Parts.{state-peers}
use Rattle.node.proofs.Moves.{published-not}
use Rattle.upkeep.specs.Ticked.{Going}
use Rattle.upkeep.proofs.Leaving.{gone_by, stay_by, some_by}

-- ---- silent peers gone

module _ (clock endpoint : ℕ) (s : State) (m : List ℕ) (k : Rep s m) (marks : List Bool) (g : Going clock endpoint (state_of s m) marks)
    {b : Bool} (e : b ≡ any (λ b. b) marks || leb refresh_age (age_at clock (own_entry (state_of s m)))) where
  -- none is, and our age does not ask for it
  pub calm_published : b ≡ false → Published (drop_silent clock endpoint (state_of s m)) s m s m
  calm_published f =
      let n : any (λ b. b) marks || leb refresh_age (age_at clock (own_entry (state_of s m))) ≡ false = sym e ∙ f in
      subst (λ (x : ModelState). Published x s m s m)
      (sym
      (silent-none clock endpoint (state_of s m) (sym (some_by clock endpoint (state_of s m) marks g) ∙ or_left (any (λ b. b) marks) _ n)
      (leb-false refresh_age (age_at clock (own_entry (state_of s m))) (or_right (any (λ b. b) marks) _ n))))
      (published-not s m k)

  pub silent-published : b ≡ true → (r : State) (m' : List ℕ)
      → Published (with_peers (keep_by (map not marks) (state_of s m).peers) (publish clock (without_peers (keep_by marks (state_of s m).peers) (own_data (state_of s m))) (state_of s m))) s m r m'
      → Published (drop_silent clock endpoint (state_of s m)) s m r m'
  silent-published f r m' o =
      let S : ModelState = state_of s m in
      let few : length S.peers ≤ most_peers = rw (state-peers s m, peers-length s.peers k.peers) k.peers.few in
      subst (λ (x : ModelState). Published x s m r m')
      (ap (λ (z : List ModelPeer). with_peers z (publish clock (without_peers (keep_by marks S.peers) (own_data S)) S)) (stay_by clock endpoint S marks g few)
      ∙ ap (λ (z : List ModelPeer). with_peers (stay clock endpoint S) (publish clock (without_peers z (own_data S)) S)) (gone_by clock endpoint S marks g)
      ∙ sym (silent-some clock endpoint S (ap (λ (x : Bool). x || leb refresh_age (age_at clock (own_entry S))) (sym (some_by clock endpoint S marks g)) ∙ sym e ∙ f)))
      o
