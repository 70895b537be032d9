-- Tries in vain.
use Rattle.std.proofs.Common.{◌≡◌, ℕ, List, Option, subst, sym}
use Rattle.hallctl_tasks.specs.{Exchange.{AreInVain, AreUnsent, IsTry, IsUnsent, Known, Unheard, more, unsent_more}, Try.Try}

-- one more try that makes nothing known
pub one_more_in_vain : (before : Option (List Try)) (octets : List ℕ) (known : Known) (last middle after : Option (List Try))
    → AreInVain before octets last → IsTry last octets known middle → known ≡ Unheard → after ≡ middle → AreInVain before octets after
one_more_in_vain before octets known last middle after vain one unheard same =
    more last after vain
    (subst (λ (end : Option (List Try)). IsTry last octets Unheard end) (sym same) (subst (λ (k : Known). IsTry last octets k middle) unheard one))

-- one more try that had no connection
pub one_more_unsent : (before last middle after : Option (List Try)) → AreUnsent before last → IsUnsent last middle → after ≡ middle → AreUnsent before after
one_more_unsent before last middle after unsent one same =
    unsent_more last after unsent (subst (λ (end : Option (List Try)). IsUnsent last end) (sym same) one)
