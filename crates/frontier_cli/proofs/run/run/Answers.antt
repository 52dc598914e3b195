use Rattle.std.proofs.Common.{inl, inr}
use Rattle.frontier_cli.proofs.Told as told
use Rattle.frontier_cli.proofs.NoFile.{no_file_printed, no_file_told}
use Rattle.frontier_cli.proofs.Budgets.{closes_ended, closes_told}
use Rattle.frontier_cli.proofs.run.run.Goals as goal

-- ---- a text is printed

pub returns-in-Ok-clause-headline : goal.returns-in-Ok-clause-headline
returns-in-Ok-clause-headline g c = told.headline _ _ _ _ _ _ _ _ _ _ c.in-Ok.ensures c.finish.ensures

pub returns-in-Ok-clause-certified : goal.returns-in-Ok-clause-certified
returns-in-Ok-clause-certified g c = told.certified _ _ _ _ _ _ _ _ _ _ c.in-Ok.ensures c.finish.ensures

pub returns-in-Ok-clause-words : goal.returns-in-Ok-clause-words
returns-in-Ok-clause-words g c = λ two. absurd (told.print_of_words _ _ _ _ _ _ _ c.finish.ensures (inl two))

pub returns-in-Ok-clause-words_refused : goal.returns-in-Ok-clause-words_refused
returns-in-Ok-clause-words_refused g c = λ none. absurd (told.no_asked_prints _ _ _ _ _ c.in-Ok.ensures none)

pub returns-in-Ok-clause-only_cause : goal.returns-in-Ok-clause-only_cause
returns-in-Ok-clause-only_cause g c = λ is. absurd (told.print_of_cause _ _ _ _ _ _ _ c.finish.ensures is)

pub returns-in-Ok-clause-only_printed : goal.returns-in-Ok-clause-only_printed
returns-in-Ok-clause-only_printed g c = λ is. told.printed_only _ _ _ _ _ c.in-Ok.ensures

pub returns-in-Ok-clause-always : goal.returns-in-Ok-clause-always
returns-in-Ok-clause-always g c = told.always-printed c.laws_of_texts.ensures.one _ _ _ _ _ _ _ _ _ _ c.in-Ok.ensures c.finish.ensures

pub returns-in-Ok-clause-read_fault : goal.returns-in-Ok-clause-read_fault
returns-in-Ok-clause-read_fault g c = λ five. absurd (told.print_of_words _ _ _ _ _ _ _ c.finish.ensures (inr five))

pub returns-in-Ok-clause-write_fault : goal.returns-in-Ok-clause-write_fault
returns-in-Ok-clause-write_fault g c = told.print_write_fault _ _ _ _ _ _ _ c.finish.ensures _ _ _

pub returns-in-Ok-clause-not_printed : goal.returns-in-Ok-clause-not_printed
returns-in-Ok-clause-not_printed g c = told.print_not_printed _ _ _ _ _ _ _ c.finish.ensures _ _ _ c.in-Ok.ensures

pub returns-in-Ok-clause-no_file : goal.returns-in-Ok-clause-no_file
returns-in-Ok-clause-no_file g c = no_file_printed _ _ _ _ _ _ _ _ _ _ c.in-Ok.ensures c.finish.ensures

pub returns-in-Ok-clause-closes : goal.returns-in-Ok-clause-closes
returns-in-Ok-clause-closes g c = closes_ended c.laws_of_texts.ensures.one _ _ _ _ _ _ _ _ _ _ c.in-Ok.ensures c.finish.ensures

pub returns-in-Ok-clause-silent : goal.returns-in-Ok-clause-silent
returns-in-Ok-clause-silent g c = told.print_silent _ _ _ _ _ _ _ c.finish.ensures

pub returns-in-Ok-clause-told : goal.returns-in-Ok-clause-told
returns-in-Ok-clause-told g c = told.print_told _ _ _ _ _ _ _ c.finish.ensures _ _ _

pub returns-in-Ok-clause-told_front : goal.returns-in-Ok-clause-told_front
returns-in-Ok-clause-told_front g c = told.prints-front _ _ _ _ _ _ _ _ _ _ c.finish.ensures

pub returns-in-Ok-clause-files : goal.returns-in-Ok-clause-files
returns-in-Ok-clause-files g c = told.files_stay_printed _ _ _ _ _ _ _ _ _ _ c.in-Ok.ensures c.finish.ensures

pub returns-in-Ok-clause-answered : goal.returns-in-Ok-clause-answered
returns-in-Ok-clause-answered g c = λ six. told.answered_printed _ _ _ _ _ c.in-Ok.ensures

-- ---- a refusal is told

pub returns-in-Err-clause-headline : goal.returns-in-Err-clause-headline
returns-in-Err-clause-headline g c =
    λ is. absurd (told.told_not_printed _ (told.refusal_is_plain c.in-Err.refusal) _ (told.tells-status _ _ _ _ c.tell.ensures) is)

pub returns-in-Err-clause-certified : goal.returns-in-Err-clause-certified
returns-in-Err-clause-certified g c =
    λ is. absurd (told.told_not_printed _ (told.refusal_is_plain c.in-Err.refusal) _ (told.tells-status _ _ _ _ c.tell.ensures) is)

pub returns-in-Err-clause-words : goal.returns-in-Err-clause-words
returns-in-Err-clause-words g c =
    told.told_words _ _ _ (told.refusal_is_plain c.in-Err.refusal) _ (told.tells-status _ _ _ _ c.tell.ensures) _ c.in-Err.ensures

pub returns-in-Err-clause-words_refused : goal.returns-in-Err-clause-words_refused
returns-in-Err-clause-words_refused g c =
    told.told_words_refused _ _ _ (told.refusal_is_plain c.in-Err.refusal) _ (told.tells-status _ _ _ _ c.tell.ensures) _ c.in-Err.ensures

pub returns-in-Err-clause-only_cause : goal.returns-in-Err-clause-only_cause
returns-in-Err-clause-only_cause g c =
    told.told_cause _ _ _ (told.refusal_is_plain c.in-Err.refusal) _ (told.tells-status _ _ _ _ c.tell.ensures) _ c.in-Err.ensures

pub returns-in-Err-clause-only_printed : goal.returns-in-Err-clause-only_printed
returns-in-Err-clause-only_printed g c =
    λ is. absurd (told.told_not_printed _ (told.refusal_is_plain c.in-Err.refusal) _ (told.tells-status _ _ _ _ c.tell.ensures) is)

pub returns-in-Err-clause-always : goal.returns-in-Err-clause-always
returns-in-Err-clause-always g c =
    let out = g.K.Sink.state c.args.out.now in
    told.always-told c.laws_of_texts.ensures.one _ _ out out _ _ _ _ _ (told.refusal_is_plain c.in-Err.refusal) c.in-Err.ensures c.tell.ensures

pub returns-in-Err-clause-read_fault : goal.returns-in-Err-clause-read_fault
returns-in-Err-clause-read_fault g c =
    told.told_read_fault _ _ _ (told.refusal_is_plain c.in-Err.refusal) _ (told.tells-status _ _ _ _ c.tell.ensures) _ c.in-Err.ensures

pub returns-in-Err-clause-write_fault : goal.returns-in-Err-clause-write_fault
returns-in-Err-clause-write_fault g c =
    let out = g.K.Sink.state c.args.out.now in
    told.told_write_fault _ _ _ (told.refusal_is_plain c.in-Err.refusal) _ (told.tells-status _ _ _ _ c.tell.ensures) _ out out c.in-Err.ensures

pub returns-in-Err-clause-silent : goal.returns-in-Err-clause-silent
returns-in-Err-clause-silent g c =
    λ is. absurd (told.told_not_printed _ (told.refusal_is_plain c.in-Err.refusal) _ (told.tells-status _ _ _ _ c.tell.ensures) is)

pub returns-in-Err-clause-told : goal.returns-in-Err-clause-told
returns-in-Err-clause-told g c =
    let out = g.K.Sink.state c.args.out.now in
    λ _ not_7. told.tells-line _ _ _ _ _ (told.may_end _ _ _ out out _ (told.refusal_is_plain c.in-Err.refusal) c.in-Err.ensures) not_7 c.tell.ensures

pub returns-in-Err-clause-told_front : goal.returns-in-Err-clause-told_front
returns-in-Err-clause-told_front g c =
    let out = g.K.Sink.state c.args.out.now in
    λ _. told.tells-front _ _ _ _ _ (told.may_end _ _ _ out out _ (told.refusal_is_plain c.in-Err.refusal) c.in-Err.ensures) c.tell.ensures

pub returns-in-Err-clause-no_file : goal.returns-in-Err-clause-no_file
returns-in-Err-clause-no_file g c =
    no_file_told _ _ _ (g.K.Sink.state c.args.out.now) _ _ (told.refusal_is_plain c.in-Err.refusal) c.in-Err.ensures
    (told.tells-status _ _ _ _ c.tell.ensures)

pub returns-in-Err-clause-closes : goal.returns-in-Err-clause-closes
returns-in-Err-clause-closes g c =
    let out = g.K.Sink.state c.args.out.now in
    closes_told _ _ out out _ _
    (told.always-told c.laws_of_texts.ensures.one _ _ out out _ _ _ _ _ (told.refusal_is_plain c.in-Err.refusal) c.in-Err.ensures c.tell.ensures)
    (λ is. told.told_not_printed _ (told.refusal_is_plain c.in-Err.refusal) _ (told.tells-status _ _ _ _ c.tell.ensures) is)

pub returns-in-Err-clause-files : goal.returns-in-Err-clause-files
returns-in-Err-clause-files g c =
    told.files_stay_told _ _ _ _ _ c.in-Err.ensures (told.tells-status _ _ _ _ c.tell.ensures) (told.refusal_is_plain c.in-Err.refusal)

pub returns-in-Err-clause-answered : goal.returns-in-Err-clause-answered
returns-in-Err-clause-answered g c =
    told.answered_told _ _ _ _ _ c.in-Err.ensures (told.tells-status _ _ _ _ c.tell.ensures) (told.refusal_is_plain c.in-Err.refusal)

pub returns-in-Err-clause-ran : goal.returns-in-Err-clause-ran
returns-in-Err-clause-ran g c =
    let out = g.K.Sink.state c.args.out.now in
    told.ran_told _ _ _ c.in-Err.refusal out _ _ _ c.in-Err.ensures c.tell.ensures
