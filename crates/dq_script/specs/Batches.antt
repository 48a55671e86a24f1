-- The batches that a script writes, and the zones in them that are blended.
use Rattle.std.specs.Prelude.{ℕ, suc, ◌+◌, List, [], ◌∷◌, ◌++◌, Bool, true, false, Option, length, map, Ok, option_map, codes}
use Rattle.std.specs.Fmt.{decimal}
use Rattle.std.specs.Ordering.{nat_cmp, ordering_then}
use Rattle.std.specs.declared.cmp.Ordering.{Ordering}
use Rattle.serde_json.specs.Data.{Data}
use Rattle.dq_base.specs.Dims as dims
use Rattle.dq_script.specs.Arrays.{array_after}
use Rattle.dq_script.specs.Objects.{has, object_of, wanted}
use Rattle.dq_script.specs.Parts.{two_items}
use Rattle.dq_script.specs.Places.{place_of, text_cmp}
use Rattle.dq_script.specs.Readings.{Reading, given, within, mapped, both, and_then}
use Rattle.dq_script.specs.Zones.{zone_of}
use Rattle.dq_script.specs.declared.batch.Batch.{Batch}
use Rattle.dq_script.specs.declared.batch.Pair.{Pair}
use Rattle.dq_script.specs.declared.dims.Grouping.{Grouping}
use Rattle.dq_script.specs.declared.extracts.Extracts.{Extracts}
use Rattle.dq_script.specs.declared.form.Form.{Form}
use Rattle.dq_script.specs.declared.form.Form.TheVariants as form
use Rattle.dq_script.specs.declared.zone.Zone.{Zone}

-- a dimension's name as it is written, and its width
abbrev pub key_of : Grouping → (List ℕ × ℕ)
key_of g = (g.name, dims.width_of g.dim)

abbrev pub key_cmp : (List ℕ × ℕ) → (List ℕ × ℕ) → Ordering
key_cmp a b = ordering_then (text_cmp a.0 b.0) (nat_cmp a.1 b.1)

-- the place from 1 of the first dimension of equal name and width
abbrev pub link_of : List (List ℕ × ℕ) → Grouping → Option ℕ
link_of keys g = option_map (λ place. place + 1) (place_of key_cmp keys (key_of g))

-- a link for each dimension, the first of which stands at this place
abbrev pub links_of : List (List ℕ × ℕ) → ℕ → List ℕ → List Grouping → Reading (List ℕ)
links_of keys place links [] = Ok links
links_of keys place links (g ∷ gs) = and_then (λ link. links_of keys (place + 1) (links ++ link ∷ []) gs) (within (decimal place) (given (link_of keys g)))

-- what stands in a batch for a blend: its two zones and the links of the second
abbrev pub links_between : (Zone × Zone) → Reading (List ℕ)
links_between z = within (codes "1") (within (codes "by") (links_of (map key_of z.0.by) 0 [] z.1.by))

abbrev pub with_links : (Zone × Zone) → Reading ((Zone × Zone) × List ℕ)
with_links z = mapped (λ links. (z, links)) (links_between z)

abbrev pub pair_parts : Extracts → (Data × Data) → Reading ((Zone × Zone) × List ℕ)
pair_parts es p = and_then with_links (both (within (codes "0") (zone_of es p.0)) (within (codes "1") (zone_of es p.1)))

-- an array of two zones, of which the second has no dimension that the first hasn't
abbrev pub pair_of : Extracts → Data → Reading ((Zone × Zone) × List ℕ)
pair_of es d = and_then (pair_parts es) (given (two_items d))

-- an object of a blend alone
abbrev pub blend_of : Extracts → Data → Reading ((Zone × Zone) × List ℕ)
blend_of es d = object_of (codes "blend" ∷ []) (wanted (codes "blend") (pair_of es) d) d

abbrev pub no_zones : Batch
no_zones = record { zones = []; pairs = [] }

abbrev pub with_zone : Batch → Zone → Batch
with_zone b z = record { zones = b.zones ++ z.query ∷ []; pairs = b.pairs }

-- the two zones one behind the other
abbrev pub with_pair : Batch → ((Zone × Zone) × List ℕ) → Batch
with_pair b p = record { zones = b.zones ++ p.0.0.query ∷ p.0.1.query ∷ []; pairs = b.pairs ++ record { zone = length b.zones + 1; links = p.1 } ∷ [] }

-- only the second form knows blends
abbrev pub is_blend : Form → Data → Bool
is_blend form.First d = false
is_blend form.Second d = has (codes "blend") d

abbrev pub next_zone_if : Bool → Extracts → Batch → Data → Reading Batch
next_zone_if false es b d = mapped (with_zone b) (zone_of es d)
next_zone_if true es b d = mapped (with_pair b) (blend_of es d)

abbrev pub next_zone : Form → Extracts → Batch → Data → Reading Batch
next_zone f es b d = next_zone_if (is_blend f d) es b d

-- an array of zones and blends
abbrev pub batch_of : Form → Extracts → Data → Reading Batch
batch_of f es d = array_after (next_zone f es) no_zones d
