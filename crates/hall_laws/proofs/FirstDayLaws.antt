-- The laws of erasing and deploying aren't empty: their premises hold of the day in the first schema, and of what comes after.
use Rattle.std.{proofs.Common.{◌∷◌, [], arith, refl}, specs.Prelude.{None, Some, drop}}
use Rattle.hall_types.specs.Kinds.{purpose_text}
use Rattle.hall_types.specs.declared.kinds.Purpose.TheVariants as purpose
use Rattle.hall_types.specs.declared.kinds.Stage.TheVariants as stage
use Rattle.boot_desk.specs.Texts.{work_script}
use Rattle.hall_laws.{specs.{Prelude.{IsDeploying, IsErasing, spelling, Full}, Laws.{AreTyped, GivesText}, FirstSchema.plain, Worked.mac, WorkedLaws.{plain_typed, the_image, typed, worked_purpose}}, proofs.{Day.{deploy_script, erase_script}, FirstDay.{erase_given, first_day, first_deploy_booted, first_erase_booted}}}

-- what the day's arrivals bring is of its type
first_day_is_typed : AreTyped first_day
first_day_is_typed = (typed _ (the_image _ _), plain_typed (drop 1 first_day) refl refl)

later_is_typed : AreTyped (erase_given ∷ [])
later_is_typed = plain_typed (erase_given ∷ []) refl refl

-- scripts that deploy are given in the first schema
deploys_in_first : GivesText mac (plain deploy_script) first_deploy_booted × IsDeploying (spelling (plain deploy_script))
unfolding work_script purpose_text
deploys_in_first = (record { event = refl; answer = refl }, worked_purpose purpose.Deploy None 2 stage.Offered (omega arith))

-- and scripts that erase
erases_in_first : GivesText mac (plain erase_script) first_erase_booted × IsErasing (spelling (plain erase_script))
unfolding work_script purpose_text
erases_in_first = (record { event = refl; answer = refl }, worked_purpose purpose.Erase None 3 stage.Offered (omega arith))

-- and once the hall was carried over, where the release was made in the first schema
erases_later : GivesText mac erase_script erase_given × IsErasing (spelling erase_script)
unfolding purpose_text
erases_later = (record { event = refl; answer = refl }, worked_purpose purpose.Erase (Some Full) 3 stage.Offered (omega arith))
