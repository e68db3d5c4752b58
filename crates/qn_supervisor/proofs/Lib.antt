mod LineSpelling
