mod VerdictLaws
mod TextsRead
