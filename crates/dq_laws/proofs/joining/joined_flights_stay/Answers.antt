use Rattle.std.proofs.Common.{◌≡◌, ◌-◌, false}
use Rattle.std.specs.Prelude.{is_none}
use Rattle.dq_machine.specs.Machine.{after}
use Rattle.dq_machine.specs.State.{Joined, flight_at, work_of}
use Rattle.dq_laws.proofs.Each.{all_each}
use Rattle.dq_laws.proofs.Goes.{legal_reached}
use Rattle.dq_laws.proofs.Joiners.{joins_found}
use Rattle.dq_laws.proofs.joining.joined_flights_stay.Goals as goal

pub returns : goal.returns
returns c =
    let l = c.args.loaded.now in
    let s = after l c.args.journal.now in
    record {
      each = λ lane. all_each (λ (j : Joined). is_none (flight_at s j.flight) ≡ false) (work_of s lane).joins
          (joins_found l s (lane - 1) (legal_reached l c.args.journal.now c.requires.legal));
    }
