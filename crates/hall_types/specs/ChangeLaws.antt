-- Laws of changes, for the proofs of callers.
use Rattle.std.{specs.Prelude.{◌≡◌, List, [], ◌∷◌, ◌++◌}, proofs.Common.{refl, ◌∙◌}}
use Rattle.hall_types.specs.{Hall.{Hall, applied, written}, declared.change.RowWrite.RowWrite}
use Rattle.hall_types.specs.declared.change.RowWrite.TheVariants as write

-- a change in two parts is carried out part by part
pub applied_append : (vs ws : List RowWrite) (h : Hall) → applied (vs ++ ws) h ≡ applied ws (applied vs h)
applied_append [] ws h = refl
applied_append (v ∷ vs) ws h = applied_append vs ws (written v h)

-- no write changes the schema
written_schema : (w : RowWrite) (h : Hall) → (written w h).schema ≡ h.schema
written_schema (write.PutOperator o) h = refl
written_schema other h = refl

pub applied_schema : (ws : List RowWrite) (h : Hall) → (applied ws h).schema ≡ h.schema
applied_schema [] h = refl
applied_schema (w ∷ ws) h = applied_schema ws (written w h) ∙ written_schema w h
