-- What clauses see of a seat and of a lease.
use Rattle.std.specs.Prelude.{◌≡◌, ℕ, Option, Some, List, [], length}
use Rattle.std.specs.List.{All}
use Rattle.atomic_table.specs.Seated.{TableId}
use Rattle.lun_lease.specs.declared.rule.Call.{Call}

-- the table that the seat is of, and the calls that it made
pub record Seated : Type 0 where
  pub table : TableId
  pub calls : List Call

-- the same, with the LUN that is held
pub record Leased : Type 0 where
  pub table : TableId
  pub lun : ℕ
  pub calls : List Call

-- the table whose seats are dealt, and how many are left
pub record Dealt : Type 0 where
  pub table : TableId
  pub left : ℕ

-- sixteen seats of this table, none of which has made a call
pub record AreNew (seats : List (Option Seated)) (table : TableId) : Type 0 where
  pub count : length seats ≡ 16
  pub each : All (λ o. o ≡ Some (record { table = table; calls = [] })) seats
