-- The words of a report tell what they stand for.
use Rattle.std.proofs.Common.{◌≡◌, Bool, true, false, ◌++◌, nat_eq, if◌then◌else◌, refl}
use Rattle.dq_base.specs.declared.invalid.Invalid.{Invalid}
use Rattle.dq_base.specs.declared.invalid.Invalid.TheVariants as invalid
use Rattle.dq_base.specs.declared.kept.Kept.{Kept}
use Rattle.dq_base.specs.declared.kept.Kept.TheVariants as kept
use Rattle.dq_journal.specs.declared.entry.Cause.{Cause}
use Rattle.dq_journal.specs.declared.entry.Cause.TheVariants as cause
use Rattle.dq_base.specs.Spelling.{Bytes}
use Rattle.dq_report.specs.Report.{kept_word, cause_text, ran_word, fresh_word, invalid_word}
use Rattle.dq_base.specs.Rests.{first, Anything}
use Rattle.dq_base.proofs.Told.{second, third, Tells, worded}

abbrev kept_in : Bytes → Kept
kept_in bs = if nat_eq (first bs) 107 then kept.Kept else if nat_eq (first bs) 116 then kept.Topped else if nat_eq (first bs) 108 then kept.TooLarge else if nat_eq (first bs) 115 then kept.Stale else kept.Memory

kept_back : (x : Kept) (r : Bytes) → kept_in (kept_word x ++ r) ≡ x
kept_back kept.Kept r = refl
kept_back kept.Topped r = refl
kept_back kept.TooLarge r = refl
kept_back kept.Stale r = refl
kept_back kept.Memory r = refl

pub kept_told : Tells (λ x. Unit {0}) Anything kept_word
kept_told = worded kept_word kept_in kept_back

abbrev cause_in : Bytes → Cause
cause_in bs = if nat_eq (second bs) 98 then cause.BackEnd else cause.Memory

cause_back : (x : Cause) (r : Bytes) → cause_in (cause_text x ++ r) ≡ x
cause_back cause.BackEnd r = refl
cause_back cause.Memory r = refl

pub cause_told : Tells (λ x. Unit {0}) Anything cause_text
cause_told = worded cause_text cause_in cause_back

abbrev ran_in : Bytes → Bool
ran_in bs = if nat_eq (second bs) 114 then true else false

ran_back : (x : Bool) (r : Bytes) → ran_in (ran_word x ++ r) ≡ x
ran_back true r = refl
ran_back false r = refl

pub ran_told : Tells (λ x. Unit {0}) Anything ran_word
ran_told = worded ran_word ran_in ran_back

abbrev fresh_in : Bytes → Bool
fresh_in bs = if nat_eq (second bs) 102 then true else false

fresh_back : (x : Bool) (r : Bytes) → fresh_in (fresh_word x ++ r) ≡ x
fresh_back true r = refl
fresh_back false r = refl

pub fresh_told : Tells (λ x. Unit {0}) Anything fresh_word
fresh_told = worded fresh_word fresh_in fresh_back

abbrev invalid_in : Bytes → Invalid
invalid_in bs = if nat_eq (third bs) 117 then invalid.Source else if nat_eq (third bs) 108 then invalid.Column else if nat_eq (third bs) 112 then invalid.RepeatedDim else if nat_eq (third bs) 114 then invalid.WrongSort else if nat_eq (third bs) 111 then invalid.NothingShown else if nat_eq (third bs) 100 then invalid.OrderKey else invalid.TooLong

invalid_back : (x : Invalid) (r : Bytes) → invalid_in (invalid_word x ++ r) ≡ x
invalid_back invalid.Source r = refl
invalid_back invalid.Column r = refl
invalid_back invalid.RepeatedDim r = refl
invalid_back invalid.WrongSort r = refl
invalid_back invalid.NothingShown r = refl
invalid_back invalid.OrderKey r = refl
invalid_back invalid.TooLong r = refl

pub invalid_told : Tells (λ x. Unit {0}) Anything invalid_word
invalid_told = worded invalid_word invalid_in invalid_back
