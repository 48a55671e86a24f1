-- Columns and extracts keep what their parts ask for.
use Rattle.std.proofs.Common.{◌≡◌, ℕ, ◌+◌, ◌<◌, List, [], ◌∷◌, ◌++◌, Bool, true, length, refl, ap, sym, ◌∙◌, subst, arith, length-append}
use Rattle.std.specs.Prelude.{Ok}
use Rattle.serde_json.specs.Data.{Data, Items}
use Rattle.dq_script.proofs.Chains.{mapped_ok, kept-after}
use Rattle.dq_script.specs.Arrays.{items_after}
use Rattle.dq_script.specs.Columns.{column_of, with_column, next_column, no_columns}
use Rattle.dq_script.specs.declared.columns.Column.{Column}
use Rattle.dq_script.specs.declared.columns.Columns.{Columns}

-- as many names as sorts
pub record IsPaired (cs : Columns) : Type 0 where
  pub paired : length cs.names ≡ length cs.sorts

more-paired : (cs : Columns) (c : Column) → IsPaired cs → IsPaired (with_column cs c)
more-paired cs c is = record { paired = length-append cs.names (c.name ∷ []) ∙ (ap (λ n. n + 1) is.paired ∙ sym (length-append cs.sorts (c.sort ∷ []))) }

next-paired : (cs t : Columns) (d : Data) → next_column cs d ≡ Ok t → IsPaired cs → IsPaired t
next-paired cs t d e is = mapped_ok (with_column cs) (column_of cs.names d) t e (λ c was made. subst IsPaired made (more-paired cs c is))

pub columns-paired : (ds : Items) (t : Columns) → items_after next_column 0 no_columns ds ≡ Ok t → IsPaired t
columns-paired ds t e = kept-after IsPaired next_column next-paired ds 0 no_columns t e record { paired = refl }
