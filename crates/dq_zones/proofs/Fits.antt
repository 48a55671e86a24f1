-- A batch that was prepared fits.
use Rattle.std.proofs.Common.{◌≡◌, ℕ, ◌+◌, ◌<◌, ◌≤◌, true, List, length, slice_get, Option, Some, ap, sym, subst, ◌∙◌, arith}
use Rattle.std.specs.List.{enumerate_from}
use Rattle.std.proofs.lemmas.List.{length-map}
use Rattle.dq_base.specs.Batches as batches
use Rattle.dq_base.specs.declared.canon.Role.TheVariants.{Remote, Local}
use Rattle.dq_base.specs.declared.query.Query.{Query}
use Rattle.dq_graph.proofs.Sources.{sources_right}
use Rattle.dq_graph.specs.Splits.{covered_by}
use Rattle.dq_graph.specs.declared.prepared.Prepared.{Prepared}
use Rattle.dq_journal.specs.Steps.{AreRefused}
use Rattle.dq_journal.specs.declared.result.ZoneResult.{ZoneResult}
use Rattle.dq_machine.specs.Owning.{fate, valid_places}
use Rattle.dq_machine.specs.Preparing.{canons_of}
use Rattle.dq_zones.specs.Answering.{BatchOf, FitFetches, FitZones, IsBatch, IsFetchFor, own_at, rank, roles_of}
use Rattle.dq_zones.specs.declared.fetch.Fetch.{Fetch}
use Rattle.dq_zones.proofs.Lists.{length_numbered, number_of}
use Rattle.dq_zones.proofs.Single.{fetch_fits}
use Rattle.dq_zones.proofs.Ranks.{brought_at}
use Rattle.dq_zones.proofs.Slots.{length_places, slot, told_refused}

module _ (b : BatchOf) (p : Prepared) (fetches : List Fetch) (is : IsBatch b p fetches) where
  many_zones : length p.zones ≡ length (canons_of b.schemas b.zones)
  many_zones = ap length is.zones ∙ length-map (valid_places b.schemas 0 b.zones) (λ k. k + 1) ∙ sym (length_places b.schemas 0 b.zones)

  many_roles : length p.roles ≡ length (canons_of b.schemas b.zones)
  many_roles = ap length is.roles ∙ length_numbered (batches.role_of (enumerate_from 0 (canons_of b.schemas b.zones))) 0 (canons_of b.schemas b.zones)

  among : (outcomes : List ZoneResult) → AreRefused b.schemas b.zones outcomes → (place zone : ℕ) → slice_get p.zones place ≡ Some zone → (0 < zone) × (zone ≤ length outcomes)
  among outcomes refused place zone at =
      let k = number_of (valid_places b.schemas 0 b.zones) place zone (sym (ap (λ ns. slice_get ns place) is.zones) ∙ at) in
      let s = slot b.schemas b.zones outcomes place k.0 (told_refused b.schemas b.zones outcomes refused) k.1 in
      let w = s.within in
      let n = k.2 in (omega (arith, n), omega (arith, n, w))

  sourced : (place source : ℕ) → slice_get p.roles place ≡ Some (Local source) → (slice_get p.roles source ≡ Some Remote) × (covered_by (slice_get p.canons source) (slice_get p.canons place) ≡ true)
  sourced place source r =
      let local : slice_get (roles_of b) place ≡ Some (Local source) = sym (ap (λ rs. slice_get rs place) is.roles) ∙ r in
      let h = sources_right (canons_of b.schemas b.zones) place (Local source) local in
      let P : List Query → Type 0 = λ cs. covered_by (slice_get cs source) (slice_get cs place) ≡ true in
      (ap (λ rs. slice_get rs source) is.roles ∙ h.0, subst P (sym is.canons) h.1)

  fetches_fit : FitFetches p fetches
  fetches_fit = λ place q r at.
      let remote : slice_get (roles_of b) place ≡ Some Remote = sym (ap (λ rs. slice_get rs place) is.roles) ∙ r in
      let canon : slice_get (canons_of b.schemas b.zones) place ≡ Some q = sym (ap (λ cs. slice_get cs place) is.canons) ∙ at in
      let w = brought_at b.rows b.journal (roles_of b) b.owns (canons_of b.schemas b.zones) fetches place q is.brought remote canon in
      let fetch : slice_get fetches (rank p.roles place) ≡ Some w.0 = ap (λ rs. slice_get fetches (rank rs place)) is.roles ∙ w.1 in
      let P : Option Fetch → Type 0 = λ o. IsFetchFor q o in
      subst P (sym fetch) (fetch_fits (fate b.journal (own_at b place)) (b.rows q.source) q w.0 w.2)

  pub fits : (outcomes : List ZoneResult) → AreRefused b.schemas b.zones outcomes → FitZones (length outcomes) p fetches
  fits outcomes refused = record {
    prepared = record {
      canons = ap length is.canons ∙ sym many_zones;
      roles = many_roles ∙ sym many_zones;
      among = among outcomes refused;
      sources = sourced;
    };
    fetched = fetches_fit;
  }
