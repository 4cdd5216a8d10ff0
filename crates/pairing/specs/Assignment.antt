-- What is paired.
use Rattle.std.specs.Prelude.{ℕ, List}
use Rattle.pairing.specs.declared.rows.Request.{Request}
use Rattle.pairing.specs.declared.rows.Trade.{Trade}

pub record Assigned : Type 0 where
  pub requests : List Request
  -- the ready lots by request
  pub ready : List ℕ
  pub trades : List Trade
