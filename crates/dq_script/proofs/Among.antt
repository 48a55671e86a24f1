-- Names among others.
use Rattle.std.proofs.Common.{◌≡◌, ℕ, List, [], ◌∷◌, Bool, true, false, ◌||◌, Option, Some, None, map, refl, ap, ◌∙◌, String, Global, string_bytes}
use Rattle.std.specs.Prelude.{not, option_map, if◌then◌else◌}
use Rattle.std.specs.Borrow.{Bor}
use Rattle.std.specs.Str.{bytes_eq}
use Rattle.std.specs.List.{list_any, find}
use Rattle.serde_json.specs.Data.{Members}
use Rattle.serde_json.specs.View.{members_view}
use Rattle.serde_json.specs.declared.value.Value.{Value}
use Rattle.dq_script.specs.Objects.{is_among, stranger, stranger_of}

pub list_any-map : {X Y : Type 0} (p : Y → Bool) (f : X → Y) (xs : List X) → list_any p (map f xs) ≡ list_any (λ x. p (f x)) xs
list_any-map p f [] = refl
list_any-map p f (x ∷ xs) = ap (λ b. p (f x) || b) (list_any-map p f xs)

abbrev pub strange : List (Bor (List ℕ)) → String Global → Bool
strange names key = not (list_any (λ other. bytes_eq other.now (string_bytes key)) names)

chosen : (b : Bool) (k : String Global) (o : Option (String Global)) (p : Option (List ℕ)) → option_map string_bytes o ≡ p
    → option_map string_bytes (if not b then Some k else o) ≡ (if b then p else Some (string_bytes k))
chosen true k o p e = e
chosen false k o p e = refl

pub find-stranger : (names : List (Bor (List ℕ))) (es : List (String Global × Value))
    → option_map string_bytes (find (strange names) (map (λ e. e.0) es)) ≡ stranger (map (λ n. n.now) names) (members_view es)
find-stranger names [] = refl
find-stranger names (e ∷ es) =
    rw (list_any-map (λ other. bytes_eq other (string_bytes e.0)) (λ n. n.now) names)
    (chosen (list_any (λ other. bytes_eq other.now (string_bytes e.0)) names) e.0 (find (strange names) (map (λ x. x.0) es)) (stranger (map (λ n. n.now) names) (members_view es)) (find-stranger names es))

pub stranger-is : (names : List (Bor (List ℕ))) (es : List (String Global × Value)) (o : Option (String Global)) (p : Option Members)
    → o ≡ find (strange names) (map (λ e. e.0) es) → Some (members_view es) ≡ p → option_map string_bytes o ≡ stranger_of (map (λ n. n.now) names) p
stranger-is names es o p found is = ap (option_map string_bytes) found ∙ (find-stranger names es ∙ ap (stranger_of (map (λ n. n.now) names)) is)
