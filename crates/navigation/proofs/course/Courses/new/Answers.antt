use Rattle.std.proofs.Common.{◌≡◌, List, length, rules, subst, sym, ap, ◌∙◌}
use Rattle.std.proofs.lemmas.List.{length-replicate}
use Rattle.claim_table.specs.Claims.{places}
use Rattle.navigation.specs.declared.course.Course.{Course}
use Rattle.navigation.specs.Kept.{IsCourseSound, course_at, no_course, no_courses}
use Rattle.navigation.proofs.Opening.{none_of_all}
use Rattle.navigation.proofs.course.Courses.new.Goals as goal

pub invariant_of-result : goal.invariant_of-result
invariant_of-result c =
    let all : c.in_ok-courses.courses.items ≡ no_courses = c.in_ok-courses.ensures.items_if_clones_equal (λ y is. search rules) in (
      ap length all ∙ length-replicate places no_course,
      λ a. subst (λ (cs : List Course). IsCourseSound (course_at cs a)) (sym all) (subst IsCourseSound (sym (none_of_all places a)) tt),
    )
