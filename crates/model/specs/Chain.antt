-- Reachable as demand 2 has it: a chain of joined nodes from our own; document 01 has the levels of Reach. Assumes nothing.
use Rattle.std.specs.Prelude.{◌≡◌, ℕ, zero, suc, true, List}
use Rattle.base.specs.Lists.{In}
use Rattle.model.specs.Reach.{Vertex, joined}

-- v is k steps from the node `own`, every node on the way but the last under the age limit
pub data Chain (own : ℕ) (t : List Vertex) : ℕ → Vertex → Type 0 where
  here : {v : Vertex} → In v t → v.says.node ≡ own → Chain own t zero v
  step : {k : ℕ} {r v : Vertex} → Chain own t k r → r.young ≡ true → joined r.says v.says ≡ true → In v t → Chain own t (suc k) v
