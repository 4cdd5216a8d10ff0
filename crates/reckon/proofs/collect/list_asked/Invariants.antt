use Rattle.std.proofs.Common.{◌≡◌, ◌++◌, map, length, drop}
use Rattle.reckon.specs.Duties.{request_duty}
use Rattle.reckon.proofs.collect.list_asked.Given as goal

abbrev pub invariant-loop-request : goal.invariant-loop-request
invariant-loop-request g l =
    (length l.owed ≡ l.request-index)
    × (l.owed ++ map (request_duty l.expiry.price) (drop l.request-index l.expiry.requests) ≡ map (request_duty l.expiry.price) l.expiry.requests)
