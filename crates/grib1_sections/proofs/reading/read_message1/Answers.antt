use Rattle.std.proofs.Common.{◌≡◌, ℕ, ◌≤◌, None, length, take, length-take-le, sym, ap, ap₂, ◌∙◌, subst, arith}
use Rattle.grib_base.specs.Rules.{first_fault}
use Rattle.grib2_sections.specs.Head.{total_length_1}
use Rattle.grib2_sections.specs.Verdict.{Accepted}
use Rattle.grib1_sections.specs.Frame.{end_rules, section_at}
use Rattle.grib1_sections.specs.Grid.{grid_rules, grid_points}
use Rattle.grib1_sections.specs.Data.{data_rules}
use Rattle.grib1_sections.specs.Acceptance.{section_fault, bitmap_fault, verdict_1, grid_start, data_start, end_start, grid as grid_of, values_of}
use Rattle.grib1_sections.specs.Message.{IsMessage1}
use Rattle.grib1_sections.proofs.Fronts.{accepted_there, front_is_message}
use Rattle.grib1_sections.proofs.Answered.{refused, passed_on, refused_grid, refused_bitmap, refused_data, refused_end, all_passed, grid_place, bitmap_place, end_place, head_total, keeps_front}
use Rattle.grib1_sections.proofs.reading.read_message1.Goals as goal

pub returns-in_err-grid : goal.returns-in_err-grid
returns-in_err-grid c =
    let m = c.args.octets.now in
    let first = c.in_ok-identification.ensures in
    let place : c.end.result ≡ grid_start m = c.end.ensures ∙ grid_place m c.in_ok-identification.identification.octets.now c.in_ok-identification.identification.start first.1 first.2 in
    refused _ _ _ _ c.from_residual-in_err-grid.ensures.1
    (refused_grid m c.in_ok-total.ensures.0 first.0 _ (ap (λ q. section_fault m q 6 grid_rules) (sym place) ∙ c.in_err-grid.ensures))

pub read_bitmap-requires-clause-start : goal.read_bitmap-requires-clause-start
read_bitmap-requires-clause-start c =
    let m = c.args.octets.now in
    let first = c.in_ok-identification.ensures in
    let second = c.in_ok-grid.ensures in
    let place : c.end.result ≡ grid_start m = c.end.ensures ∙ grid_place m c.in_ok-identification.identification.octets.now c.in_ok-identification.identification.start first.1 first.2 in
    omega (arith, c.end-2.ensures, second.1, bitmap_place m c.in_ok-grid.grid.octets.now c.end.result place second.2)

pub read_bitmap-requires-clause-points : goal.read_bitmap-requires-clause-points
read_bitmap-requires-clause-points c =
    let m = c.args.octets.now in
    let first = c.in_ok-identification.ensures in
    let second = c.in_ok-grid.ensures in
    let place : c.end.result ≡ grid_start m = c.end.ensures ∙ grid_place m c.in_ok-identification.identification.octets.now c.in_ok-identification.identification.start first.1 first.2 in
    second.3 ∙ ap grid_points (second.2.section ∙ ap (section_at m) place)

pub returns-in_err-bitmap : goal.returns-in_err-bitmap
returns-in_err-bitmap c =
    let m = c.args.octets.now in
    let first = c.in_ok-identification.ensures in
    let place : c.end.result ≡ grid_start m = c.end.ensures ∙ grid_place m c.in_ok-identification.identification.octets.now c.in_ok-identification.identification.start first.1 first.2 in
    let second : section_fault m (grid_start m) 6 grid_rules ≡ None = ap (λ q. section_fault m q 6 grid_rules) (sym place) ∙ c.in_ok-grid.ensures.0 in
    passed_on _ _ _ (bitmap_fault m) _ c.from_residual-in_err-bitmap.ensures.1
    (λ fault e. refused_bitmap m c.in_ok-total.ensures.0 first.0 second fault e) c.in_err-bitmap.ensures

pub read_data-requires-clause-counted : goal.read_data-requires-clause-counted
read_data-requires-clause-counted c = c.in_ok-bitmap.ensures.1.low

pub returns-in_err-data : goal.returns-in_err-data
returns-in_err-data c =
    let m = c.args.octets.now in
    let first = c.in_ok-identification.ensures in
    let place : c.end.result ≡ grid_start m = c.end.ensures ∙ grid_place m c.in_ok-identification.identification.octets.now c.in_ok-identification.identification.start first.1 first.2 in
    let second : section_fault m (grid_start m) 6 grid_rules ≡ None = ap (λ q. section_fault m q 6 grid_rules) (sym place) ∙ c.in_ok-grid.ensures.0 in
    let bitmap = c.in_ok-bitmap.ensures.1 in
    refused _ _ _ _ c.from_residual-in_err-data.ensures.1
    (refused_data m c.in_ok-total.ensures.0 first.0 second _ c.in_ok-bitmap.ensures.0
    (ap₂ (λ q k. section_fault m q 11 (data_rules k)) (sym bitmap.place) (sym bitmap.present_are) ∙ c.in_err-data.ensures))

pub returns-in_err-check_end : goal.returns-in_err-check_end
returns-in_err-check_end c =
    let m = c.args.octets.now in
    let first = c.in_ok-identification.ensures in
    let place : c.end.result ≡ grid_start m = c.end.ensures ∙ grid_place m c.in_ok-identification.identification.octets.now c.in_ok-identification.identification.start first.1 first.2 in
    let second : section_fault m (grid_start m) 6 grid_rules ≡ None = ap (λ q. section_fault m q 6 grid_rules) (sym place) ∙ c.in_ok-grid.ensures.0 in
    let bitmap = c.in_ok-bitmap.ensures.1 in
    let fourth : section_fault m (data_start m) 11 (data_rules (values_of m)) ≡ None =
    ap₂ (λ q k. section_fault m q 11 (data_rules k)) (sym bitmap.place) (sym bitmap.present_are) ∙ c.in_ok-data.ensures.0 in
    let end : c.end-3.result ≡ end_start m = omega (arith, c.end-3.ensures, c.in_ok-data.ensures.1, end_place m c.in_ok-data.data.octets.now c.in_ok-bitmap.bitmap.end bitmap.place c.in_ok-data.ensures.2) in
    refused _ _ _ _ c.from_residual-in_err-check_end.ensures.1
    (refused_end m c.in_ok-total.ensures.0 first.0 second _ c.in_ok-bitmap.ensures.0 fourth
    (ap (λ q. first_fault (end_rules m q)) (sym end) ∙ c.in_err-check_end.ensures))

pub of-requires : goal.of-requires
of-requires c =
    let m = c.args.octets.now in
    let total = c.in_ok-total.field-0.total in
    let first = c.in_ok-identification.ensures in
    let grid = c.in_ok-grid.ensures in
    let bitmap = c.in_ok-bitmap.ensures.1 in
    let fourth = c.in_ok-data.ensures in
    let place : c.end.result ≡ grid_start m = c.end.ensures ∙ grid_place m c.in_ok-identification.identification.octets.now c.in_ok-identification.identification.start first.1 first.2 in
    let end : c.end-3.result ≡ end_start m = omega (arith, c.end-3.ensures, fourth.1, end_place m c.in_ok-data.data.octets.now c.in_ok-bitmap.bitmap.end bitmap.place fourth.2) in
    let stated : total ≡ total_length_1 m = head_total m c.in_ok-total.field-0 c.requires.edition c.in_ok-total.ensures.1 in
    let accepted : verdict_1 m ≡ Accepted total =
    all_passed m c.end.result c.in_ok-bitmap.bitmap.end c.end-3.result c.in_ok-bitmap.bitmap.present total c.in_ok-total.ensures.0 first.0 place grid.0
    c.in_ok-bitmap.ensures.0 bitmap.place bitmap.present_are fourth.0 end c.in_ok-check_end.ensures stated in
    let section_2 : c.in_ok-grid.grid.octets.now ≡ grid_of m = grid.2.section ∙ ap (section_at m) place in
    keeps_front m c.in_ok-identification.identification.octets.now c.in_ok-grid.grid.octets.now c.in_ok-data.data.octets.now _ c.in_ok-grid.points c.in_ok-bitmap.bitmap.present total
    c.requires.indicated c.requires.edition accepted first.2.section section_2 bitmap.section (fourth.2.section ∙ ap (section_at m) bitmap.place)
    (grid.3 ∙ ap grid_points section_2) bitmap.present_are

pub returns : goal.returns
returns c =
    let m = c.args.octets.now in
    let total = c.in_ok-total.field-0.total in
    let first = c.in_ok-identification.ensures in
    let bitmap = c.in_ok-bitmap.ensures.1 in
    let fourth = c.in_ok-data.ensures in
    let place : c.end.result ≡ grid_start m = c.end.ensures ∙ grid_place m c.in_ok-identification.identification.octets.now c.in_ok-identification.identification.start first.1 first.2 in
    let end : c.end-3.result ≡ end_start m = omega (arith, c.end-3.ensures, fourth.1, end_place m c.in_ok-data.data.octets.now c.in_ok-bitmap.bitmap.end bitmap.place fourth.2) in
    let stated : total ≡ total_length_1 m = head_total m c.in_ok-total.field-0 c.requires.edition c.in_ok-total.ensures.1 in
    let accepted : verdict_1 m ≡ Accepted total =
    all_passed m c.end.result c.in_ok-bitmap.bitmap.end c.end-3.result c.in_ok-bitmap.bitmap.present total c.in_ok-total.ensures.0 first.0 place c.in_ok-grid.ensures.0
    c.in_ok-bitmap.ensures.0 bitmap.place bitmap.present_are fourth.0 end c.in_ok-check_end.ensures stated in
    let there : total ≤ length m = accepted_there m total c.requires.edition accepted in
    let is : c.of.result ≡ take total m = c.of.ensures in
    let long : length c.of.result ≡ total = ap length is ∙ length-take-le total m there in (
      accepted ∙ ap Accepted (sym long),
      is ∙ ap (λ (n : ℕ). take n m) (sym long),
      subst IsMessage1 (sym is) (front_is_message m total c.requires.indicated c.requires.edition accepted),
    )
