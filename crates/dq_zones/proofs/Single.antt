-- What was brought for a query.
use Rattle.std.proofs.Common.{Some}
use Rattle.dq_base.specs.declared.query.Query.{Query}
use Rattle.dq_journal.specs.Standing.{Rows}
use Rattle.dq_machine.specs.Owning.{Fate, Answered, Failed, Wanting}
use Rattle.dq_zones.specs.Answering.{IsFetchFor}
use Rattle.dq_zones.specs.Brought.{IsBrought}
use Rattle.dq_zones.specs.declared.fetch.Fetch.{Fetch}
use Rattle.dq_zones.specs.declared.fetch.Fetch.TheVariants.{Waiting, Flying, Brought, BackEnd, Memory}

-- what was brought may be fetched
pub fetch_fits : (x : Fate) (rows : Rows) (q : Query) (f : Fetch) → IsBrought x rows q f → IsFetchFor q (Some f)
fetch_fits Answered rows q (Waiting flight) b = absurd b
fetch_fits Answered rows q (Flying flight) b = absurd b
fetch_fits Answered rows q (Brought key table) b = b.0
fetch_fits Answered rows q BackEnd b = absurd b
fetch_fits Answered rows q Memory b = tt
fetch_fits Failed rows q (Waiting flight) b = absurd b
fetch_fits Failed rows q (Flying flight) b = absurd b
fetch_fits Failed rows q (Brought key table) b = absurd b
fetch_fits Failed rows q BackEnd b = tt
fetch_fits Failed rows q Memory b = absurd b
fetch_fits Wanting rows q (Waiting flight) b = absurd b
fetch_fits Wanting rows q (Flying flight) b = absurd b
fetch_fits Wanting rows q (Brought key table) b = absurd b
fetch_fits Wanting rows q BackEnd b = absurd b
fetch_fits Wanting rows q Memory b = tt
