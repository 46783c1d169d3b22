use Rattle.tag_block.proofs.FormFaults.{form_faults_tell}
use Rattle.tag_block.proofs.form_laws.a_form_fault_is_where_no_blocks_go_on.Goals as goal

pub returns : goal.returns
returns c = form_faults_tell
