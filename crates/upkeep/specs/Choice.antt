-- Where our Keep-Alive TLV of an endpoint stands. Assumes nothing.
use Rattle.std.specs.Prelude.{◌≡◌, List, ℕ, ◌+◌, ◌≤◌, length}
use Rattle.base.specs.Memory.{cut}
use Rattle.model.specs.KeepAlive.{without_keep_alive}
use Rattle.node.specs.declared.publish.Span.{Span}

-- cut out of the data, it leaves them without the endpoint's TLV
pub record KeepAliveStands (i : ℕ) (d : List ℕ) (r : Span) : Type 0 where
  pub inside : r.start + r.size ≤ length d
  pub rest : cut d r.start r.size ≡ without_keep_alive i d
