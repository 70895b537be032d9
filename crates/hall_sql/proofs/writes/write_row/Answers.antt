use Rattle.sql_schema.specs.{Words.{PutOperator, PutPool, PutMember, PutImage, ImageGone, PutLive, PutInterface, InterfaceGone, PutBoot, PutOrder, PutReceipt, PutNumbers, Machine}, StepLaws.gives}
use Rattle.std.proofs.Common.{ap, refl, sym, ◌∙◌, option_map}
use Rattle.hall_sql.proofs.WriteLemmas.{writes_row}
use Rattle.hall_sql.proofs.writes.write_row.Goals as goal

pub returns-in-PutOperator-clause-written : goal.returns-in-PutOperator-clause-written
returns-in-PutOperator-clause-written g c = writes_row (PutOperator c.in-PutOperator.operator) c.in-PutOperator.is (λ x. refl) (λ h. tt) (λ rows keeps. tt) c.put_operator.ensures.written

pub returns-in-PutPool-clause-written : goal.returns-in-PutPool-clause-written
returns-in-PutPool-clause-written g c = writes_row (PutPool c.in-PutPool.pool) c.in-PutPool.is (λ x. refl) (λ h. tt) (λ rows keeps. keeps) c.add_pool.ensures.written

pub returns-in-PutMember-clause-written : goal.returns-in-PutMember-clause-written
returns-in-PutMember-clause-written g c = writes_row (PutMember c.in-PutMember.member) c.in-PutMember.is (λ x. refl) (λ h. tt) (λ rows keeps. keeps.new) c.add_member.ensures.written

pub returns-in-PutImage-clause-written : goal.returns-in-PutImage-clause-written
returns-in-PutImage-clause-written g c = writes_row (PutImage c.in-PutImage.image) c.in-PutImage.is (λ x. refl) (λ h. tt) (λ rows keeps. keeps) c.add_image.ensures.written

pub returns-in-ImageGone-clause-written : goal.returns-in-ImageGone-clause-written
returns-in-ImageGone-clause-written g c = writes_row (ImageGone c.in-ImageGone.name) c.in-ImageGone.is (λ x. refl) (λ h. tt) (λ rows keeps. tt) c.remove_image.ensures.written

pub returns-in-PutLive-clause-written : goal.returns-in-PutLive-clause-written
returns-in-PutLive-clause-written g c = writes_row (PutLive c.in-PutLive.live) c.in-PutLive.is (λ x. refl) (λ h. tt) (λ rows keeps. tt) c.put_live.ensures.written

pub returns-in-PutInterface-clause-written : goal.returns-in-PutInterface-clause-written
returns-in-PutInterface-clause-written g c = writes_row (PutInterface c.in-PutInterface.interface) c.in-PutInterface.is (λ x. refl) (λ h. tt) (λ rows keeps. keeps.new) c.add_interface.ensures.written

pub returns-in-InterfaceGone-clause-written : goal.returns-in-InterfaceGone-clause-written
returns-in-InterfaceGone-clause-written g c = writes_row (InterfaceGone c.in-InterfaceGone.mac) c.in-InterfaceGone.is (λ x. refl) (λ h. tt) (λ rows keeps. tt) c.remove_interface.ensures.written

pub returns-in-PutBoot-clause-written : goal.returns-in-PutBoot-clause-written
returns-in-PutBoot-clause-written g c = writes_row (PutBoot c.in-PutBoot.boot) c.in-PutBoot.is (λ x. refl) (λ h. tt) (λ rows keeps. tt) c.put_boot.ensures.written

pub returns-in-PutOrder-clause-written : goal.returns-in-PutOrder-clause-written
returns-in-PutOrder-clause-written g c = writes_row (PutOrder c.in-PutOrder.order) c.in-PutOrder.is (λ x. refl) (λ h. tt) (λ rows keeps. tt) c.put_order.ensures.written

pub returns-in-PutReceipt-clause-written : goal.returns-in-PutReceipt-clause-written
returns-in-PutReceipt-clause-written g c = writes_row (PutReceipt c.in-PutReceipt.receipt) c.in-PutReceipt.is (λ x. refl) (λ h. tt) (λ rows keeps. keeps.new) c.add_receipt.ensures.written

pub returns-in-PutNumbers-clause-written : goal.returns-in-PutNumbers-clause-written
returns-in-PutNumbers-clause-written g c = writes_row (PutNumbers c.in-PutNumbers.numbers) c.in-PutNumbers.is (λ x. refl) (λ h. tt) (λ rows keeps. tt) c.set_numbers.ensures.written

pub returns-in-Some-clause-written : goal.returns-in-Some-clause-written
returns-in-Some-clause-written g c clean = rw c.in-PutMachine.is (gives _ c.set_whole.result (c.set_whole.ensures.written clean) (λ done put before h held keeps. let it = put before h held in (it.0, c.in-Some.is ∙ it.1)))

pub returns-in-None-clause-written : goal.returns-in-None-clause-written
returns-in-None-clause-written g c clean =
    rw c.in-PutMachine.is (gives _ c.add_whole.result (c.add_whole.ensures.written clean) (λ done put before h held keeps. let it = put before h held in (it.0, c.in-None.is ∙ sym (ap (option_map (λ (m : Machine). m.version)) it.1))))

pub returns-in-MachineGone-clause-written : goal.returns-in-MachineGone-clause-written
returns-in-MachineGone-clause-written g c clean = rw c.in-MachineGone.is (gives _ c.remove_machine.result (c.remove_machine.ensures.written clean) (λ done gone before h held keeps. (gone before h held, tt)))
