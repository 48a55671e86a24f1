-- Texts one behind the other.
use Rattle.std.proofs.Common.{◌≡◌, ℕ, List, ◌++◌, ap, ◌∙◌, append_assoc}

-- three texts behind an old one
pub three_more : (old a b c one two three : List ℕ) → one ≡ old ++ a → two ≡ one ++ b → three ≡ two ++ c → three ≡ old ++ (a ++ b ++ c)
three_more old a b c one two three first second third =
    third ∙ ap (λ t. t ++ c) (second ∙ ap (λ t. t ++ b) first) ∙ ap (λ t. t ++ c) (append_assoc old a b) ∙ append_assoc old (a ++ b) c
